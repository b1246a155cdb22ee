use Rattle.lq_env.specs.Environments.{env_of}
use Rattle.lq_evars.proofs.Growing.{context_grown}
use Rattle.lq_kernel.specs.declared.faults.KernelFault.{KernelFault}
use Rattle.lq_typing.specs.declared.waiting.Frame.{Frame}
use Rattle.lq_typing.specs.declared.waiting.Turn.{Turn}
use Rattle.lq_typing.specs.declared.waiting.Under.{Under}
use Rattle.lq_typing.specs.Frames.{turn_work}
use Rattle.std.proofs.Common.{◌∷◌}
use Rattle.lq_typing.proofs.TurnLaws.{site_found, kind_found}
use Rattle.lq_typing.proofs.ArmLaws.{function_enters}
use Rattle.lq_typing.proofs.StopLaws.{goes_out, function_stops}
use Rattle.lq_typing.proofs.MeasureLaws.{entered_falls}
use Rattle.lq_typing.proofs.resuming.function_domain.Goals as goal

pub sort_form-requires-clause-site : goal.sort_form-requires-clause-site
sort_form-requires-clause-site g c = site_found c.args.work.now.bank.now c.args.env.now c.args.store.now c.args.context.now _ c.args.kind c.requires.lent c.requires.turn

pub sort_form-requires-clause-term : goal.sort_form-requires-clause-term
sort_form-requires-clause-term g c = kind_found c.args.work.now.bank.now c.args.store.now c.args.context.now _ c.args.kind c.requires.turn

pub entered-requires-clause-context : goal.entered-requires-clause-context
entered-requires-clause-context g c = (context_grown c.args.work.now.bank.now c.sort_form.new.work.bank.now c.in_ok-sort_form.ensures.grows c.args.context.now c.requires.turn.context).1

pub returns-in_err-sort_form-clause-goes : goal.returns-in_err-sort_form-clause-goes
returns-in_err-sort_form-clause-goes g c =
    goes_out c.sort_form.new.work.bank.now c.args.store.now (env_of c.args.work.now.bank.now c.args.env.now) c.args.context.now c.args.waiting.now (turn_work c.args.work.now.bank.now c.args.store.now (env_of c.args.work.now.bank.now c.args.env.now) c.args.context.now (Frame.FunctionDomain c.args.binder c.args.domain c.args.rest ∷ c.args.waiting.now) (Turn.Found c.args.kind)) c.args.work.now.ticks.now.left c.sort_form.new.work.ticks.now.left c.from_residual.result c.in_err-sort_form.field-0.0 c.from_residual.ensures.1
    (function_stops c.args.work.now.bank.now c.args.store.now (env_of c.args.work.now.bank.now c.args.env.now) c.args.context.now c.args.waiting.now c.args.kind c.sort_form.new.work.bank.now c.in_err-sort_form.field-0.0 c.args.work.now.ticks.now.left c.sort_form.new.work.ticks.now.left c.args.binder c.args.domain c.args.rest c.in_err-sort_form.ensures.answer)

pub returns-in_err-turn-clause-goes : goal.returns-in_err-turn-clause-goes
returns-in_err-turn-clause-goes g c = goes_out c.entered.new.bank c.args.store.now (env_of c.args.work.now.bank.now c.args.env.now) c.entered.new.context c.entered.new.waiting (turn_work c.args.work.now.bank.now c.args.store.now (env_of c.args.work.now.bank.now c.args.env.now) c.args.context.now (Frame.FunctionDomain c.args.binder c.args.domain c.args.rest ∷ c.args.waiting.now) (Turn.Found c.args.kind)) c.args.work.now.ticks.now.left c.sort_form.new.work.ticks.now.left c.from_residual-in_err-turn.result KernelFault.NoMemory c.from_residual-in_err-turn.ensures.1 tt

pub returns-clause-goes : goal.returns-clause-goes
returns-clause-goes g c =
    function_enters c.args.work.now.bank.now c.args.store.now (env_of c.args.work.now.bank.now c.args.env.now) c.args.context.now c.args.waiting.now c.args.kind c.requires.lent.store c.requires.lent.kept c.args.work.now.ticks.now.left c.sort_form.new.work.ticks.now.left c.sort_form.new.work.bank.now c.entered.new.bank c.in_ok-sort_form.ensures.grows c.in_ok-turn.ensures.grows c.entered.new.context c.entered.new.waiting c.args.binder c.args.domain c.args.rest c.requires.turn c.in_ok-sort_form.field-0 c.in_ok-turn.turn c.in_ok-turn.ensures.entered c.in_ok-sort_form.ensures.answer

pub returns-clause-falls : goal.returns-clause-falls
returns-clause-falls g c = entered_falls c.sort_form.new.work.bank.now c.entered.new.bank c.args.context.now c.entered.new.context c.args.waiting.now c.entered.new.waiting (Under.Function) c.args.binder c.args.domain c.args.rest c.in_ok-turn.turn c.in_ok-turn.ensures.entered
