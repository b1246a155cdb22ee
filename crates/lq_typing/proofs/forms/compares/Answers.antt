use Rattle.std.proofs.Common.{Ok, Err}
use Rattle.lq_evars.specs.Places.{store_of}
use Rattle.lq_kernel.proofs.DomainLaws.{falls}
use Rattle.lq_kernel.proofs.FormLaws.{compare_err}
use Rattle.lq_kernel.proofs.Told.{own}
use Rattle.lq_unify.proofs.OneForm.{have_bodies}
use Rattle.lq_typing.proofs.FormLaws.{compared}
use Rattle.lq_typing.proofs.forms.compares.Goals as goal

pub conv-requires-clause-within_left : goal.conv-requires-clause-within_left
conv-requires-clause-within_left g c = c.requires.found.stands.within

pub conv-requires-clause-within_right : goal.conv-requires-clause-within_right
conv-requires-clause-within_right g c = c.requires.wanted.within

pub conv-requires-clause-context : goal.conv-requires-clause-context
conv-requires-clause-context g c = have_bodies c.args.work.now.bank.now (store_of c.args.work.now.bank.now c.args.store.now) c.args.context.now c.requires.site.has c.requires.site.context

pub conv-requires-clause-told : goal.conv-requires-clause-told
conv-requires-clause-told g c = c.computes.ensures.has c.args.work.now.bank.now c.requires.site.lent.env

pub conv-requires-clause-values : goal.conv-requires-clause-values
conv-requires-clause-values g c = c.values_stand.ensures.stand c.args.work.now.bank.now c.requires.site.lent.store c.requires.site.lent.kept

pub returns-in-Ok-clause-answer : goal.returns-in-Ok-clause-answer
returns-in-Ok-clause-answer g c =
    compared c.args.work.now.bank.now c.args.env.now c.args.store.now c.args.context.now c.requires.site (c.values_stand.ensures.told c.args.work.now.bank.now c.requires.site.lent.kept)
    (c.computes.ensures.told c.args.work.now.bank.now c.requires.site.lent.env (λ x has. own c.args.work.now.bank.now x c.names_apart.ensures has)) c.args.found c.requires.found
    c.conv.new.work.bank.now c.args.work.now.ticks.now.left c.conv.new.work.ticks.now.left c.args.wanted c.requires.wanted (Ok c.in-Ok.same) c.in-Ok.ensures.answer

pub returns-in-Ok-clause-fewer : goal.returns-in-Ok-clause-fewer
returns-in-Ok-clause-fewer g c =
    falls _ c.args.work.now.ticks.now.left c.in-Ok.same c.conv.new.work.ticks.now.left
    (compared c.args.work.now.bank.now c.args.env.now c.args.store.now c.args.context.now c.requires.site (c.values_stand.ensures.told c.args.work.now.bank.now c.requires.site.lent.kept)
    (c.computes.ensures.told c.args.work.now.bank.now c.requires.site.lent.env (λ x has. own c.args.work.now.bank.now x c.names_apart.ensures has)) c.args.found c.requires.found
    c.conv.new.work.bank.now c.args.work.now.ticks.now.left c.conv.new.work.ticks.now.left c.args.wanted c.requires.wanted (Ok c.in-Ok.same) c.in-Ok.ensures.answer)

pub returns-in-Err-clause-answer : goal.returns-in-Err-clause-answer
returns-in-Err-clause-answer g c =
    compare_err _ _ _ _ c.conv.new.work.bank.now c.args.work.now.ticks.now.left c.conv.new.work.ticks.now.left c.in-Err.fault c.from.result c.from.ensures
    (compared c.args.work.now.bank.now c.args.env.now c.args.store.now c.args.context.now c.requires.site (c.values_stand.ensures.told c.args.work.now.bank.now c.requires.site.lent.kept)
    (c.computes.ensures.told c.args.work.now.bank.now c.requires.site.lent.env (λ x has. own c.args.work.now.bank.now x c.names_apart.ensures has)) c.args.found c.requires.found
    c.conv.new.work.bank.now c.args.work.now.ticks.now.left c.conv.new.work.ticks.now.left c.args.wanted c.requires.wanted (Err c.in-Err.fault) c.in-Err.ensures.answer)
