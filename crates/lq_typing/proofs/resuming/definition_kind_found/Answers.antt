use Rattle.std.proofs.Common.{refl}
use Rattle.lq_terms.proofs.Growth.{Grows-refl}
use Rattle.lq_env.specs.Environments.{env_of}
use Rattle.lq_kernel.specs.declared.faults.KernelFault.{KernelFault}
use Rattle.lq_typing.specs.declared.waiting.Frame.{Frame}
use Rattle.lq_typing.specs.declared.waiting.Turn.{Turn}
use Rattle.lq_typing.specs.Frames.{turn_work}
use Rattle.std.proofs.Common.{◌∷◌}
use Rattle.lq_typing.proofs.TurnLaws.{site_found, kind_found}
use Rattle.lq_typing.proofs.ArmLaws.{definition_asks}
use Rattle.lq_typing.proofs.StopLaws.{goes_out, definition_stops}
use Rattle.lq_typing.proofs.resuming.definition_kind_found.Goals as goal

pub sort_form-requires-clause-site : goal.sort_form-requires-clause-site
sort_form-requires-clause-site g c = site_found c.args.work.now.bank.now c.args.env.now c.args.store.now c.args.context.now _ c.args.kind c.requires.lent c.requires.turn

pub sort_form-requires-clause-term : goal.sort_form-requires-clause-term
sort_form-requires-clause-term g c = kind_found c.args.work.now.bank.now c.args.store.now c.args.context.now _ c.args.kind c.requires.turn

pub returns-in_err-sort_form-clause-goes : goal.returns-in_err-sort_form-clause-goes
returns-in_err-sort_form-clause-goes g c =
    goes_out c.sort_form.new.work.bank.now c.args.store.now (env_of c.args.work.now.bank.now c.args.env.now) c.args.context.now c.args.waiting.now (turn_work c.args.work.now.bank.now c.args.store.now (env_of c.args.work.now.bank.now c.args.env.now) c.args.context.now (Frame.DefinitionKind c.args.binder c.args.value c.args.written c.args.rest ∷ c.args.waiting.now) (Turn.Found c.args.kind)) c.args.work.now.ticks.now.left c.sort_form.new.work.ticks.now.left c.from_residual.result c.in_err-sort_form.field-0.0 c.from_residual.ensures.1
    (definition_stops c.args.work.now.bank.now c.args.store.now (env_of c.args.work.now.bank.now c.args.env.now) c.args.context.now c.args.waiting.now c.args.kind c.sort_form.new.work.bank.now c.in_err-sort_form.field-0.0 c.args.work.now.ticks.now.left c.sort_form.new.work.ticks.now.left c.args.binder c.args.value c.args.written c.args.rest c.in_err-sort_form.ensures.answer)

pub returns-in_err-push-clause-goes : goal.returns-in_err-push-clause-goes
returns-in_err-push-clause-goes g c = goes_out c.sort_form.new.work.bank.now c.args.store.now (env_of c.args.work.now.bank.now c.args.env.now) c.args.context.now c.push.new.self (turn_work c.args.work.now.bank.now c.args.store.now (env_of c.args.work.now.bank.now c.args.env.now) c.args.context.now (Frame.DefinitionKind c.args.binder c.args.value c.args.written c.args.rest ∷ c.args.waiting.now) (Turn.Found c.args.kind)) c.args.work.now.ticks.now.left c.sort_form.new.work.ticks.now.left c.from_residual-in_err-push.result KernelFault.NoMemory c.from_residual-in_err-push.ensures.1 tt

pub returns-clause-goes : goal.returns-clause-goes
returns-clause-goes g c = definition_asks c.args.work.now.bank.now c.args.store.now (env_of c.args.work.now.bank.now c.args.env.now) c.args.context.now c.args.waiting.now c.args.kind c.requires.lent.store c.requires.lent.kept c.args.work.now.ticks.now.left c.sort_form.new.work.ticks.now.left c.sort_form.new.work.bank.now c.sort_form.new.work.bank.now c.in_ok-sort_form.ensures.grows (Grows-refl c.sort_form.new.work.bank.now) c.args.context.now c.push.new.self c.args.binder c.args.value c.args.written c.args.rest c.requires.turn c.in_ok-sort_form.field-0 refl c.in_ok-push.ensures.ok c.in_ok-sort_form.ensures.answer
