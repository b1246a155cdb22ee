use Rattle.std.proofs.Common.{sym}
use Rattle.lq_env.specs.Environments.{env_of}
use Rattle.lq_typing.specs.declared.waiting.Frame.{Frame}
use Rattle.lq_typing.specs.declared.waiting.Turn.{Turn}
use Rattle.lq_typing.specs.Frames.{turn_work}
use Rattle.std.proofs.Common.{◌∷◌}
use Rattle.std.proofs.Common.{subst as along}
use Rattle.lq_typing.specs.Going.{Goes}
use Rattle.lq_typing.proofs.TurnLaws.{popped_context}
use Rattle.lq_typing.proofs.ArmLaws.{definition_ends, closed_there}
use Rattle.lq_typing.proofs.MeasureLaws.{found_falls}
use Rattle.lq_typing.proofs.resuming.definition_rest.Goals as goal

pub definition_kind-requires-clause-value_over : goal.definition_kind-requires-clause-value_over
definition_kind-requires-clause-value_over g c = c.requires.turn.stands.1.parts.0.1.over

pub definition_kind-requires-clause-closed : goal.definition_kind-requires-clause-closed
definition_kind-requires-clause-closed g c = c.requires.turn.stands.1.parts.0.1.within

pub definition_kind-requires-clause-kind_over : goal.definition_kind-requires-clause-kind_over
definition_kind-requires-clause-kind_over g c = c.requires.turn.stands.1.kind.over

pub definition_kind-requires-clause-kind_within : goal.definition_kind-requires-clause-kind_within
definition_kind-requires-clause-kind_within g c = c.requires.turn.stands.1.kind.within

pub definition_kind-requires-clause-fits : goal.definition_kind-requires-clause-fits
definition_kind-requires-clause-fits g c = c.requires.turn.stands.1.fits

pub definition_kind-requires-clause-context : goal.definition_kind-requires-clause-context
definition_kind-requires-clause-context g c = popped_context c.args.work.now.bank.now c.args.store.now c.args.context.now _ c.args.kind c.requires.lent.store c.requires.turn c.pop.result c.pop.new.self c.hypotheses.result.now c.pop.ensures c.hypotheses.ensures

pub definition_kind-requires-clause-holds : goal.definition_kind-requires-clause-holds
definition_kind-requires-clause-holds g c = closed_there c.args.work.now.bank.now c.args.store.now c.args.context.now c.args.waiting.now c.args.kind c.requires.lent.store c.requires.lent.kept c.args.name c.args.value c.requires.turn c.pop.result c.pop.new.self c.hypotheses.result.now c.pop.ensures c.hypotheses.ensures

pub returns-clause-goes : goal.returns-clause-goes
returns-clause-goes g c =
    along (λ z. Goes c.definition_kind.new.bank c.args.store.now (env_of c.args.work.now.bank.now c.args.env.now) c.pop.new.self c.args.waiting.now z (turn_work c.args.work.now.bank.now c.args.store.now (env_of c.args.work.now.bank.now c.args.env.now) c.args.context.now (Frame.DefinitionRest c.args.name c.args.value ∷ c.args.waiting.now) (Turn.Found c.args.kind)) c.args.work.now.ticks.now.left c.args.work.now.ticks.now.left) (sym c.found.ensures)
    (definition_ends c.args.work.now.bank.now c.args.store.now (env_of c.args.work.now.bank.now c.args.env.now) c.args.context.now c.args.waiting.now c.args.kind c.requires.lent.store c.requires.lent.kept c.args.work.now.ticks.now.left c.definition_kind.new.bank c.definition_kind.ensures.grows c.pop.new.self c.pop.result c.pop.ensures c.definition_kind.result c.args.name c.args.value c.requires.turn c.definition_kind.ensures.answer)

pub returns-clause-falls : goal.returns-clause-falls
returns-clause-falls g c = found_falls c.definition_kind.result c.found.result c.args.waiting.now c.found.ensures
