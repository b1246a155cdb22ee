use Rattle.std.proofs.Common.{sym}
use Rattle.lq_env.specs.Environments.{env_of}
use Rattle.lq_typing.specs.declared.waiting.Frame.{Frame}
use Rattle.lq_typing.specs.declared.waiting.Turn.{Turn}
use Rattle.lq_typing.specs.Frames.{turn_work}
use Rattle.std.proofs.Common.{◌∷◌}
use Rattle.std.proofs.Common.{subst as along}
use Rattle.lq_typing.specs.Going.{Goes}
use Rattle.lq_typing.proofs.ArmLaws.{function_ends}
use Rattle.lq_typing.proofs.MeasureLaws.{found_falls}
use Rattle.lq_typing.proofs.resuming.function_rest.Goals as goal

pub function_kind-requires-clause-domain_over : goal.function_kind-requires-clause-domain_over
function_kind-requires-clause-domain_over g c = c.requires.turn.stands.1.parts.0.1.over

pub function_kind-requires-clause-domain_within : goal.function_kind-requires-clause-domain_within
function_kind-requires-clause-domain_within g c = c.requires.turn.stands.1.parts.0.1.within

pub function_kind-requires-clause-kind_over : goal.function_kind-requires-clause-kind_over
function_kind-requires-clause-kind_over g c = c.requires.turn.stands.1.kind.over

pub function_kind-requires-clause-kind_within : goal.function_kind-requires-clause-kind_within
function_kind-requires-clause-kind_within g c = c.requires.turn.stands.1.kind.within

pub function_kind-requires-clause-fits : goal.function_kind-requires-clause-fits
function_kind-requires-clause-fits g c = c.requires.turn.stands.1.fits

pub returns-clause-goes : goal.returns-clause-goes
returns-clause-goes g c =
    along (λ z. Goes c.function_kind.new.bank c.args.store.now (env_of c.args.work.now.bank.now c.args.env.now) c.pop.new.self c.args.waiting.now z (turn_work c.args.work.now.bank.now c.args.store.now (env_of c.args.work.now.bank.now c.args.env.now) c.args.context.now (Frame.FunctionRest c.args.binder c.args.name c.args.domain ∷ c.args.waiting.now) (Turn.Found c.args.kind)) c.args.work.now.ticks.now.left c.args.work.now.ticks.now.left) (sym c.found.ensures)
    (function_ends c.args.work.now.bank.now c.args.store.now (env_of c.args.work.now.bank.now c.args.env.now) c.args.context.now c.args.waiting.now c.args.kind c.requires.lent.store c.requires.lent.kept c.args.work.now.ticks.now.left c.function_kind.new.bank c.function_kind.ensures.grows c.pop.new.self c.pop.result c.pop.ensures c.function_kind.result c.args.binder c.args.name c.args.domain c.requires.turn c.function_kind.ensures.answer)

pub returns-clause-falls : goal.returns-clause-falls
returns-clause-falls g c = found_falls c.function_kind.result c.found.result c.args.waiting.now c.found.ensures
