use Rattle.std.proofs.Common.{sym, Ok, Err}
use Rattle.std.proofs.Common.{subst as along}
use Rattle.lq_calculus.specs.Declarations.{rules_of}
use Rattle.lq_terms.specs.Terms.{tree_of}
use Rattle.lq_terms.specs.Contexts.{context_of}
use Rattle.lq_env.specs.Environments.{env_of, telling}
use Rattle.lq_evars.specs.Places.{store_of}
use Rattle.lq_kernel.proofs.Told.{own}
use Rattle.lq_solving.specs.Elaboration.{form_of}
use Rattle.lq_solving.proofs.ElabSettled.{at}
use Rattle.lq_unify.proofs.OneForm.{have_bodies}
use Rattle.lq_elab.specs.Answers.{Comes}
use Rattle.lq_elab.proofs.HeadForms.{form_at, form_bare, reduced}
use Rattle.lq_elab.proofs.forms.head_form.Goals as goal

pub whnf-requires-clause-within : goal.whnf-requires-clause-within
whnf-requires-clause-within g c = c.requires.stands.within

pub whnf-requires-clause-context : goal.whnf-requires-clause-context
whnf-requires-clause-context g c = have_bodies c.args.work.now.bank.now (store_of c.args.work.now.bank.now c.args.store.now) c.args.context.now c.requires.context c.requires.hypotheses

pub whnf-requires-clause-told : goal.whnf-requires-clause-told
whnf-requires-clause-told g c = c.computes.ensures.has c.args.work.now.bank.now c.requires.env

pub whnf-requires-clause-values : goal.whnf-requires-clause-values
whnf-requires-clause-values g c = c.values_stand.ensures.stand c.args.work.now.bank.now c.requires.store c.requires.kept

pub returns-in-Ok-clause-answer : goal.returns-in-Ok-clause-answer
returns-in-Ok-clause-answer g c =
    form_at c.args.work.now.bank.now c.args.store.now c.args.context.now c.args.kind c.requires.kept c.requires.hypotheses c.requires.stands (c.values_stand.ensures.told c.args.work.now.bank.now c.requires.kept)
    (env_of c.args.work.now.bank.now c.args.env.now) c.requires.plain.rules (telling c.args.env.now) (c.computes.ensures.told c.args.work.now.bank.now c.requires.env (λ x has. own c.args.work.now.bank.now x c.names_apart.ensures has))
    c.whnf.new.work.bank.now c.args.work.now.ticks.now.left c.whnf.new.work.ticks.now.left (Ok c.in-Ok.form) c.in-Ok.ensures.answer

pub returns-in-Ok-clause-stands : goal.returns-in-Ok-clause-stands
returns-in-Ok-clause-stands g c =
    (form_bare (store_of c.args.work.now.bank.now c.args.store.now) c.requires.kept (rules_of (env_of c.args.work.now.bank.now c.args.env.now)) c.requires.plain.rules (context_of c.args.work.now.bank.now c.args.context.now) c.requires.hypotheses
    (tree_of c.args.work.now.bank.now c.args.kind) (tree_of c.whnf.new.work.bank.now c.in-Ok.form) c.requires.stands c.args.work.now.ticks.now.left c.whnf.new.work.ticks.now.left
    (reduced c.args.work.now.bank.now c.args.store.now c.args.context.now c.args.kind c.requires.kept c.requires.hypotheses c.requires.stands (c.values_stand.ensures.told c.args.work.now.bank.now c.requires.kept)
    (env_of c.args.work.now.bank.now c.args.env.now) c.requires.plain.rules (telling c.args.env.now) (c.computes.ensures.told c.args.work.now.bank.now c.requires.env (λ x has. own c.args.work.now.bank.now x c.names_apart.ensures has))
    c.whnf.new.work.bank.now c.args.work.now.ticks.now.left c.whnf.new.work.ticks.now.left (Ok c.in-Ok.form) c.in-Ok.ensures.answer).2).0

pub returns-in-Ok-clause-holds : goal.returns-in-Ok-clause-holds
returns-in-Ok-clause-holds g c =
    (form_bare (store_of c.args.work.now.bank.now c.args.store.now) c.requires.kept (rules_of (env_of c.args.work.now.bank.now c.args.env.now)) c.requires.plain.rules (context_of c.args.work.now.bank.now c.args.context.now) c.requires.hypotheses
    (tree_of c.args.work.now.bank.now c.args.kind) (tree_of c.whnf.new.work.bank.now c.in-Ok.form) c.requires.stands c.args.work.now.ticks.now.left c.whnf.new.work.ticks.now.left
    (reduced c.args.work.now.bank.now c.args.store.now c.args.context.now c.args.kind c.requires.kept c.requires.hypotheses c.requires.stands (c.values_stand.ensures.told c.args.work.now.bank.now c.requires.kept)
    (env_of c.args.work.now.bank.now c.args.env.now) c.requires.plain.rules (telling c.args.env.now) (c.computes.ensures.told c.args.work.now.bank.now c.requires.env (λ x has. own c.args.work.now.bank.now x c.names_apart.ensures has))
    c.whnf.new.work.bank.now c.args.work.now.ticks.now.left c.whnf.new.work.ticks.now.left (Ok c.in-Ok.form) c.in-Ok.ensures.answer).2).1

pub returns-in-Err-clause-answer : goal.returns-in-Err-clause-answer
returns-in-Err-clause-answer g c = λ e x.
    along (λ y. Comes c.whnf.new.work.bank.now (tree_of c.whnf.new.work.bank.now) (Err y) (λ n. form_of (at n e) (context_of c.args.work.now.bank.now c.args.context.now) (store_of c.args.work.now.bank.now c.args.store.now) (tree_of c.args.work.now.bank.now c.args.kind)) c.args.work.now.ticks.now.left c.whnf.new.work.ticks.now.left) (sym c.fault_of.ensures)
    (form_at c.args.work.now.bank.now c.args.store.now c.args.context.now c.args.kind c.requires.kept c.requires.hypotheses c.requires.stands (c.values_stand.ensures.told c.args.work.now.bank.now c.requires.kept)
    (env_of c.args.work.now.bank.now c.args.env.now) c.requires.plain.rules (telling c.args.env.now) (c.computes.ensures.told c.args.work.now.bank.now c.requires.env (λ x has. own c.args.work.now.bank.now x c.names_apart.ensures has))
    c.whnf.new.work.bank.now c.args.work.now.ticks.now.left c.whnf.new.work.ticks.now.left (Err c.in-Err.fault) c.in-Err.ensures.answer e x)
