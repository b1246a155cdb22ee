use Rattle.std.proofs.Common.{sym, Ok, Err}
use Rattle.std.proofs.Common.{subst as along}
use Rattle.lq_terms.specs.Contexts.{context_of}
use Rattle.lq_terms.specs.Terms.{tree_of}
use Rattle.lq_solving.specs.Stores.{read, read_context}
use Rattle.lq_evars.specs.Places.{store_of}
use Rattle.lq_unify.specs.Reducing.{Formed}
use Rattle.lq_unify.proofs.OneForm.{have_bodies, form_found}
use Rattle.lq_unify.proofs.reducing.one_form.Goals as goal

pub whnf-requires-clause-within : goal.whnf-requires-clause-within
whnf-requires-clause-within g c = c.requires.stands.within

pub whnf-requires-clause-context : goal.whnf-requires-clause-context
whnf-requires-clause-context g c = have_bodies c.args.work.now.bank.now (store_of c.args.work.now.bank.now c.args.store.now) c.args.context.now c.requires.context c.requires.hypotheses

pub whnf-requires-clause-told : goal.whnf-requires-clause-told
whnf-requires-clause-told g c = c.requires.rules.has

pub whnf-requires-clause-values : goal.whnf-requires-clause-values
whnf-requires-clause-values g c = c.values_stand.ensures.stand c.args.work.now.bank.now c.requires.store c.requires.kept

pub returns-in-Ok-clause-answer : goal.returns-in-Ok-clause-answer
returns-in-Ok-clause-answer g c = form_found c.args.work.now.bank.now c.args.store.now c.args.context.now c.args.term c.requires.kept c.requires.hypotheses c.requires.stands (c.values_stand.ensures.told c.args.work.now.bank.now c.requires.kept) c.whnf.new.work.bank.now (g.R.Rules.told c.args.rules.now) c.args.work.now.ticks.now.left c.whnf.new.work.ticks.now.left (Ok c.in-Ok.form) c.in-Ok.ensures.answer c.names_apart.ensures

pub returns-in-Ok-clause-fewer : goal.returns-in-Ok-clause-fewer
returns-in-Ok-clause-fewer g c = (form_found c.args.work.now.bank.now c.args.store.now c.args.context.now c.args.term c.requires.kept c.requires.hypotheses c.requires.stands (c.values_stand.ensures.told c.args.work.now.bank.now c.requires.kept) c.whnf.new.work.bank.now (g.R.Rules.told c.args.rules.now) c.args.work.now.ticks.now.left c.whnf.new.work.ticks.now.left (Ok c.in-Ok.form) c.in-Ok.ensures.answer c.names_apart.ensures c.requires.rules.rules c.requires.rules.tells c.requires.rules.plain).fewer

pub returns-in-Err-clause-answer : goal.returns-in-Err-clause-answer
returns-in-Err-clause-answer g c = λ r tells plain.
    along (λ y. Formed r (read_context (store_of c.args.work.now.bank.now c.args.store.now) (context_of c.args.work.now.bank.now c.args.context.now)) (read (store_of c.args.work.now.bank.now c.args.store.now) (tree_of c.args.work.now.bank.now c.args.term)) c.whnf.new.work.bank.now (Err y) c.args.work.now.ticks.now.left c.whnf.new.work.ticks.now.left) (sym c.fault_of.ensures)
    (form_found c.args.work.now.bank.now c.args.store.now c.args.context.now c.args.term c.requires.kept c.requires.hypotheses c.requires.stands (c.values_stand.ensures.told c.args.work.now.bank.now c.requires.kept) c.whnf.new.work.bank.now (g.R.Rules.told c.args.rules.now) c.args.work.now.ticks.now.left c.whnf.new.work.ticks.now.left (Err c.in-Err.fault) c.in-Err.ensures.answer c.names_apart.ensures r tells plain)
