use Rattle.lq_evars.specs.Places.{store_of}
use Rattle.lq_kernel.proofs.DomainLaws.{falls}
use Rattle.lq_kernel.proofs.Told.{own}
use Rattle.lq_unify.proofs.OneForm.{have_bodies}
use Rattle.lq_typing.proofs.FormLaws.{head_ok, head_err}
use Rattle.lq_typing.proofs.forms.head_form.Goals as goal

pub whnf-requires-clause-within : goal.whnf-requires-clause-within
whnf-requires-clause-within g c = c.requires.term.stands.within

pub whnf-requires-clause-context : goal.whnf-requires-clause-context
whnf-requires-clause-context g c = have_bodies c.args.work.now.bank.now (store_of c.args.work.now.bank.now c.args.store.now) c.args.context.now c.requires.site.has c.requires.site.context

pub whnf-requires-clause-told : goal.whnf-requires-clause-told
whnf-requires-clause-told g c = c.computes.ensures.has c.args.work.now.bank.now c.requires.site.lent.env

pub whnf-requires-clause-values : goal.whnf-requires-clause-values
whnf-requires-clause-values g c = c.values_stand.ensures.stand c.args.work.now.bank.now c.requires.site.lent.store c.requires.site.lent.kept

pub returns-in-Ok-clause-answer : goal.returns-in-Ok-clause-answer
returns-in-Ok-clause-answer g c =
    head_ok c.args.work.now.bank.now c.args.env.now c.args.store.now c.args.context.now c.requires.site (c.values_stand.ensures.told c.args.work.now.bank.now c.requires.site.lent.kept)
    (c.computes.ensures.told c.args.work.now.bank.now c.requires.site.lent.env (λ x has. own c.args.work.now.bank.now x c.names_apart.ensures has)) c.args.term c.requires.term
    c.whnf.new.work.bank.now c.args.work.now.ticks.now.left c.whnf.new.work.ticks.now.left c.in-Ok.form c.in-Ok.ensures.answer

pub returns-in-Ok-clause-fewer : goal.returns-in-Ok-clause-fewer
returns-in-Ok-clause-fewer g c =
    falls _ c.args.work.now.ticks.now.left _ c.whnf.new.work.ticks.now.left (head_ok c.args.work.now.bank.now c.args.env.now c.args.store.now c.args.context.now c.requires.site (c.values_stand.ensures.told c.args.work.now.bank.now c.requires.site.lent.kept)
    (c.computes.ensures.told c.args.work.now.bank.now c.requires.site.lent.env (λ x has. own c.args.work.now.bank.now x c.names_apart.ensures has)) c.args.term c.requires.term
    c.whnf.new.work.bank.now c.args.work.now.ticks.now.left c.whnf.new.work.ticks.now.left c.in-Ok.form c.in-Ok.ensures.answer).2

pub returns-in-Err-clause-answer : goal.returns-in-Err-clause-answer
returns-in-Err-clause-answer g c =
    head_err c.args.work.now.bank.now c.args.env.now c.args.store.now c.args.context.now c.requires.site (c.values_stand.ensures.told c.args.work.now.bank.now c.requires.site.lent.kept)
    (c.computes.ensures.told c.args.work.now.bank.now c.requires.site.lent.env (λ x has. own c.args.work.now.bank.now x c.names_apart.ensures has)) c.args.term c.requires.term
    c.whnf.new.work.bank.now c.args.work.now.ticks.now.left c.whnf.new.work.ticks.now.left c.in-Err.fault c.from.result c.from.ensures c.in-Err.ensures.answer
