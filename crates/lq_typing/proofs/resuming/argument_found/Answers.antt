use Rattle.std.proofs.Common.{sym, refl}
use Rattle.lq_env.specs.Environments.{env_of}
use Rattle.lq_typing.specs.declared.waiting.Frame.{Frame}
use Rattle.lq_typing.specs.declared.waiting.Turn.{Turn}
use Rattle.lq_typing.specs.Frames.{turn_work}
use Rattle.std.proofs.Common.{◌∷◌}
use Rattle.lq_typing.proofs.TurnLaws.{site_found, kind_found}
use Rattle.lq_typing.proofs.ArmLaws.{argument_ends, argument_there, rest_context, rest_holds}
use Rattle.lq_typing.proofs.StopLaws.{goes_out, argument_stops}
use Rattle.lq_typing.proofs.MeasureLaws.{found_falls}
use Rattle.std.proofs.Common.{subst as along}
use Rattle.lq_typing.specs.Going.{Goes}
use Rattle.lq_typing.proofs.KindLaws.{kept_grown, over_grown, within_grown}
use Rattle.lq_typing.proofs.resuming.argument_found.Goals as goal

pub matching-requires-clause-site : goal.matching-requires-clause-site
matching-requires-clause-site g c = site_found c.args.work.now.bank.now c.args.env.now c.args.store.now c.args.context.now _ c.args.kind c.requires.lent c.requires.turn

pub matching-requires-clause-found : goal.matching-requires-clause-found
matching-requires-clause-found g c = kind_found c.args.work.now.bank.now c.args.store.now c.args.context.now _ c.args.kind c.requires.turn

pub matching-requires-clause-wanted : goal.matching-requires-clause-wanted
matching-requires-clause-wanted g c = argument_there c.args.work.now.bank.now c.args.store.now c.args.context.now c.args.waiting.now c.args.kind c.args.argument c.args.domain c.args.rest c.requires.turn

pub returns-in_err-matching-clause-goes : goal.returns-in_err-matching-clause-goes
returns-in_err-matching-clause-goes g c =
    goes_out c.matching.new.work.bank.now c.args.store.now (env_of c.args.work.now.bank.now c.args.env.now) c.args.context.now c.args.waiting.now (turn_work c.args.work.now.bank.now c.args.store.now (env_of c.args.work.now.bank.now c.args.env.now) c.args.context.now (Frame.Argument c.args.argument c.args.domain c.args.rest ∷ c.args.waiting.now) (Turn.Found c.args.kind)) c.args.work.now.ticks.now.left c.matching.new.work.ticks.now.left c.from_residual.result c.in_err-matching.field-0.0 c.from_residual.ensures.1
    (argument_stops c.args.work.now.bank.now c.args.store.now (env_of c.args.work.now.bank.now c.args.env.now) c.args.context.now c.args.waiting.now c.args.kind c.matching.new.work.bank.now c.in_err-matching.field-0.0 c.args.work.now.ticks.now.left c.matching.new.work.ticks.now.left c.args.argument c.args.domain c.args.rest c.in_err-matching.ensures.answer)

pub rest_kind-requires-clause-kept : goal.rest_kind-requires-clause-kept
rest_kind-requires-clause-kept g c = kept_grown c.args.work.now.bank.now c.matching.new.work.bank.now c.in_ok-matching.ensures.grows c.args.store.now c.requires.lent.store c.requires.lent.kept

pub rest_kind-requires-clause-context : goal.rest_kind-requires-clause-context
rest_kind-requires-clause-context g c = rest_context c.args.work.now.bank.now c.matching.new.work.bank.now c.in_ok-matching.ensures.grows c.args.context.now c.hypotheses.result.now c.hypotheses.ensures c.requires.turn.context

pub rest_kind-requires-clause-rest_over : goal.rest_kind-requires-clause-rest_over
rest_kind-requires-clause-rest_over g c = over_grown c.args.work.now.bank.now c.matching.new.work.bank.now c.in_ok-matching.ensures.grows c.args.store.now c.requires.lent.store c.args.rest c.requires.turn.frames.0.2 c.requires.turn.stands.1.parts.0.2.over

pub rest_kind-requires-clause-within : goal.rest_kind-requires-clause-within
rest_kind-requires-clause-within g c = within_grown c.args.work.now.bank.now c.matching.new.work.bank.now c.in_ok-matching.ensures.grows 1 c.args.rest c.requires.turn.frames.0.2 c.requires.turn.stands.1.parts.0.2.within

pub rest_kind-requires-clause-holds : goal.rest_kind-requires-clause-holds
rest_kind-requires-clause-holds g c = rest_holds c.args.work.now.bank.now c.matching.new.work.bank.now c.in_ok-matching.ensures.grows c.args.store.now c.args.context.now c.args.waiting.now c.args.kind c.args.argument c.args.domain c.args.rest c.requires.turn c.hypotheses.result.now c.hypotheses.ensures

pub rest_kind-requires-clause-value_over : goal.rest_kind-requires-clause-value_over
rest_kind-requires-clause-value_over g c = over_grown c.args.work.now.bank.now c.matching.new.work.bank.now c.in_ok-matching.ensures.grows c.args.store.now c.requires.lent.store c.args.argument c.requires.turn.frames.0.0 c.requires.turn.stands.1.parts.0.0.over

pub rest_kind-requires-clause-closed : goal.rest_kind-requires-clause-closed
rest_kind-requires-clause-closed g c = within_grown c.args.work.now.bank.now c.matching.new.work.bank.now c.in_ok-matching.ensures.grows 0 c.args.argument c.requires.turn.frames.0.0 c.requires.turn.stands.1.parts.0.0.within

pub returns-clause-goes : goal.returns-clause-goes
returns-clause-goes g c =
    along (λ z. Goes c.rest_kind.new.bank c.args.store.now (env_of c.args.work.now.bank.now c.args.env.now) c.args.context.now c.args.waiting.now z (turn_work c.args.work.now.bank.now c.args.store.now (env_of c.args.work.now.bank.now c.args.env.now) c.args.context.now (Frame.Argument c.args.argument c.args.domain c.args.rest ∷ c.args.waiting.now) (Turn.Found c.args.kind)) c.args.work.now.ticks.now.left c.matching.new.work.ticks.now.left) (sym c.found.ensures)
    (argument_ends c.args.work.now.bank.now c.args.store.now (env_of c.args.work.now.bank.now c.args.env.now) c.args.context.now c.args.waiting.now c.args.kind c.requires.lent.store c.requires.lent.kept c.args.work.now.ticks.now.left c.matching.new.work.ticks.now.left c.matching.new.work.bank.now c.rest_kind.new.bank c.in_ok-matching.ensures.grows c.rest_kind.ensures.grows c.args.context.now c.args.waiting.now c.args.argument c.args.domain c.args.rest c.requires.turn refl refl c.rest_kind.result c.in_ok-matching.ensures.answer c.rest_kind.ensures.answer)

pub returns-clause-falls : goal.returns-clause-falls
returns-clause-falls g c = found_falls c.rest_kind.result c.found.result c.args.waiting.now c.found.ensures
