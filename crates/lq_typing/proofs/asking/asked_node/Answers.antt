use Rattle.std.proofs.Common.{sym}
use Rattle.std.proofs.Common.{subst as along}
use Rattle.lq_env.specs.Environments.{env_of}
use Rattle.lq_typing.specs.declared.waiting.Turn.{Turn}
use Rattle.lq_typing.specs.Frames.{turn_work}
use Rattle.lq_typing.specs.Going.{Goes}
use Rattle.lq_typing.proofs.TurnLaws.{site_asked, term_asked}
use Rattle.lq_typing.proofs.AskLaws.{paid_goes, single_goes}
use Rattle.lq_typing.proofs.MeasureLaws.{paid_falls, single_falls}
use Rattle.lq_typing.proofs.asking.asked_node.Goals as goal

pub single_kind-requires-clause-site : goal.single_kind-requires-clause-site
single_kind-requires-clause-site g c = site_asked c.args.work.now.bank.now c.args.env.now c.args.store.now c.args.context.now c.args.waiting.now c.args.term c.requires.lent c.requires.turn

pub single_kind-requires-clause-term : goal.single_kind-requires-clause-term
single_kind-requires-clause-term g c = term_asked c.args.work.now.bank.now c.args.store.now c.args.context.now c.args.waiting.now c.args.term c.requires.turn

pub single_kind-requires-clause-single : goal.single_kind-requires-clause-single
single_kind-requires-clause-single g c = rw c.in-None.is at c.first_of.ensures

pub returns-in-Some-clause-goes : goal.returns-in-Some-clause-goes
returns-in-Some-clause-goes g c =
    paid_goes c.args.work.now.bank.now c.args.store.now (env_of c.args.work.now.bank.now c.args.env.now) c.args.context.now c.args.waiting.now c.requires.lent.store c.requires.lent.kept c.args.term c.requires.turn c.in-Some.frame c.in-Some.part (rw c.in-Some.is at c.first_of.ensures) c.pay.result c.pay.new.waiting c.args.work.now.ticks.now.left c.pay.new.ticks.left c.pay.ensures.pays

pub returns-in-Some-clause-falls : goal.returns-in-Some-clause-falls
returns-in-Some-clause-falls g c = paid_falls c.pay.result c.in-Some.frame c.in-Some.part c.args.waiting.now c.pay.new.waiting c.args.work.now.ticks.now.left c.pay.new.ticks.left c.pay.ensures.pays

pub returns-in-None-clause-goes : goal.returns-in-None-clause-goes
returns-in-None-clause-goes g c =
    along (λ z. Goes c.single_kind.new.work.bank.now c.args.store.now (env_of c.args.work.now.bank.now c.args.env.now) c.args.context.now c.args.waiting.now z (turn_work c.args.work.now.bank.now c.args.store.now (env_of c.args.work.now.bank.now c.args.env.now) c.args.context.now c.args.waiting.now (Turn.Ask c.args.term)) c.args.work.now.ticks.now.left c.single_kind.new.work.ticks.now.left) (sym c.found.ensures)
    (single_goes c.args.work.now.bank.now c.args.store.now (env_of c.args.work.now.bank.now c.args.env.now) c.args.context.now c.args.waiting.now c.requires.lent.store c.requires.lent.kept c.args.term c.requires.turn c.requires.lent.plain c.single_kind.new.work.bank.now c.single_kind.ensures.grows c.single_kind.result c.args.work.now.ticks.now.left c.single_kind.new.work.ticks.now.left c.single_kind.ensures.answer)

pub returns-in-None-clause-falls : goal.returns-in-None-clause-falls
returns-in-None-clause-falls g c = single_falls c.single_kind.result c.found.result c.args.waiting.now c.args.work.now.ticks.now.left c.single_kind.new.work.ticks.now.left c.found.ensures c.single_kind.ensures.pays
