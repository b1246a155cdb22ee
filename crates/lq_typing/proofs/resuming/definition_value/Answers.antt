use Rattle.lq_env.specs.Environments.{env_of}
use Rattle.lq_evars.proofs.Growing.{context_grown}
use Rattle.lq_kernel.specs.declared.faults.KernelFault.{KernelFault}
use Rattle.lq_typing.specs.declared.waiting.Frame.{Frame}
use Rattle.lq_typing.specs.declared.waiting.Turn.{Turn}
use Rattle.lq_typing.specs.declared.waiting.Under.{Under}
use Rattle.lq_typing.specs.Frames.{turn_work}
use Rattle.std.proofs.Common.{◌∷◌}
use Rattle.lq_typing.proofs.TurnLaws.{site_found, kind_found}
use Rattle.lq_typing.proofs.ArmLaws.{value_enters}
use Rattle.lq_typing.proofs.StopLaws.{goes_out, value_stops}
use Rattle.lq_typing.proofs.MeasureLaws.{entered_falls}
use Rattle.lq_typing.proofs.resuming.definition_value.Goals as goal

pub matching_written-requires-clause-site : goal.matching_written-requires-clause-site
matching_written-requires-clause-site g c = site_found c.args.work.now.bank.now c.args.env.now c.args.store.now c.args.context.now _ c.args.kind c.requires.lent c.requires.turn

pub matching_written-requires-clause-found : goal.matching_written-requires-clause-found
matching_written-requires-clause-found g c = kind_found c.args.work.now.bank.now c.args.store.now c.args.context.now _ c.args.kind c.requires.turn

pub matching_written-requires-clause-has_wanted : goal.matching_written-requires-clause-has_wanted
matching_written-requires-clause-has_wanted g c = c.requires.turn.frames.0.2

pub matching_written-requires-clause-wanted : goal.matching_written-requires-clause-wanted
matching_written-requires-clause-wanted g c = c.requires.turn.stands.1.parts.0.1

pub entered-requires-clause-context : goal.entered-requires-clause-context
entered-requires-clause-context g c = (context_grown c.args.work.now.bank.now c.matching_written.new.work.bank.now c.in_ok-matching_written.ensures.grows c.args.context.now c.requires.turn.context).1

pub returns-in_err-matching_written-clause-goes : goal.returns-in_err-matching_written-clause-goes
returns-in_err-matching_written-clause-goes g c =
    goes_out c.matching_written.new.work.bank.now c.args.store.now (env_of c.args.work.now.bank.now c.args.env.now) c.args.context.now c.args.waiting.now (turn_work c.args.work.now.bank.now c.args.store.now (env_of c.args.work.now.bank.now c.args.env.now) c.args.context.now (Frame.DefinitionValue c.args.binder c.args.value c.args.written c.args.rest ∷ c.args.waiting.now) (Turn.Found c.args.kind)) c.args.work.now.ticks.now.left c.matching_written.new.work.ticks.now.left c.from_residual.result c.in_err-matching_written.field-0.0 c.from_residual.ensures.1
    (value_stops c.args.work.now.bank.now c.args.store.now (env_of c.args.work.now.bank.now c.args.env.now) c.args.context.now c.args.waiting.now c.args.kind c.matching_written.new.work.bank.now c.in_err-matching_written.field-0.0 c.args.work.now.ticks.now.left c.matching_written.new.work.ticks.now.left c.args.binder c.args.value c.args.written c.args.rest c.in_err-matching_written.ensures.answer)

pub returns-in_err-turn-clause-goes : goal.returns-in_err-turn-clause-goes
returns-in_err-turn-clause-goes g c = goes_out c.entered.new.bank c.args.store.now (env_of c.args.work.now.bank.now c.args.env.now) c.entered.new.context c.entered.new.waiting (turn_work c.args.work.now.bank.now c.args.store.now (env_of c.args.work.now.bank.now c.args.env.now) c.args.context.now (Frame.DefinitionValue c.args.binder c.args.value c.args.written c.args.rest ∷ c.args.waiting.now) (Turn.Found c.args.kind)) c.args.work.now.ticks.now.left c.matching_written.new.work.ticks.now.left c.from_residual-in_err-turn.result KernelFault.NoMemory c.from_residual-in_err-turn.ensures.1 tt

pub returns-clause-goes : goal.returns-clause-goes
returns-clause-goes g c =
    value_enters c.args.work.now.bank.now c.args.store.now (env_of c.args.work.now.bank.now c.args.env.now) c.args.context.now c.args.waiting.now c.args.kind c.requires.lent.store c.requires.lent.kept c.args.work.now.ticks.now.left c.matching_written.new.work.ticks.now.left c.matching_written.new.work.bank.now c.entered.new.bank c.in_ok-matching_written.ensures.grows c.in_ok-turn.ensures.grows c.entered.new.context c.entered.new.waiting c.args.binder c.args.value c.args.written c.args.rest c.requires.turn c.in_ok-turn.turn c.in_ok-turn.ensures.entered c.in_ok-matching_written.ensures.answer

pub returns-clause-falls : goal.returns-clause-falls
returns-clause-falls g c = entered_falls c.matching_written.new.work.bank.now c.entered.new.bank c.args.context.now c.entered.new.context c.args.waiting.now c.entered.new.waiting (Under.Definition c.args.value) c.args.binder c.args.written c.args.rest c.in_ok-turn.turn c.in_ok-turn.ensures.entered
