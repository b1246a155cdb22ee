use Rattle.std.proofs.Common.{refl}
use Rattle.lq_terms.proofs.Growth.{Grows-refl}
use Rattle.lq_env.specs.Environments.{env_of}
use Rattle.lq_kernel.specs.declared.faults.KernelFault.{KernelFault}
use Rattle.lq_typing.specs.declared.waiting.Frame.{Frame}
use Rattle.lq_typing.specs.declared.waiting.Turn.{Turn}
use Rattle.lq_typing.specs.Frames.{turn_work}
use Rattle.std.proofs.Common.{◌∷◌}
use Rattle.lq_typing.proofs.TurnLaws.{site_found, kind_found}
use Rattle.lq_typing.proofs.ArmLaws.{function_asks}
use Rattle.lq_typing.proofs.StopLaws.{goes_out, applied_stops}
use Rattle.lq_typing.proofs.resuming.function_found.Goals as goal

pub product_form-requires-clause-site : goal.product_form-requires-clause-site
product_form-requires-clause-site g c = site_found c.args.work.now.bank.now c.args.env.now c.args.store.now c.args.context.now _ c.args.kind c.requires.lent c.requires.turn

pub product_form-requires-clause-term : goal.product_form-requires-clause-term
product_form-requires-clause-term g c = kind_found c.args.work.now.bank.now c.args.store.now c.args.context.now _ c.args.kind c.requires.turn

pub returns-in_err-domain-clause-goes : goal.returns-in_err-domain-clause-goes
returns-in_err-domain-clause-goes g c =
    goes_out c.product_form.new.work.bank.now c.args.store.now (env_of c.args.work.now.bank.now c.args.env.now) c.args.context.now c.args.waiting.now (turn_work c.args.work.now.bank.now c.args.store.now (env_of c.args.work.now.bank.now c.args.env.now) c.args.context.now (Frame.Function c.args.argument ∷ c.args.waiting.now) (Turn.Found c.args.kind)) c.args.work.now.ticks.now.left c.product_form.new.work.ticks.now.left c.from_residual.result c.in_err-domain.field-0.0 c.from_residual.ensures.1
    (applied_stops c.args.work.now.bank.now c.args.store.now (env_of c.args.work.now.bank.now c.args.env.now) c.args.context.now c.args.waiting.now c.args.kind c.product_form.new.work.bank.now c.in_err-domain.field-0.0 c.args.work.now.ticks.now.left c.product_form.new.work.ticks.now.left c.args.argument c.in_err-domain.ensures.answer)

pub returns-in_err-push-clause-goes : goal.returns-in_err-push-clause-goes
returns-in_err-push-clause-goes g c = goes_out c.product_form.new.work.bank.now c.args.store.now (env_of c.args.work.now.bank.now c.args.env.now) c.args.context.now c.push.new.self (turn_work c.args.work.now.bank.now c.args.store.now (env_of c.args.work.now.bank.now c.args.env.now) c.args.context.now (Frame.Function c.args.argument ∷ c.args.waiting.now) (Turn.Found c.args.kind)) c.args.work.now.ticks.now.left c.product_form.new.work.ticks.now.left c.from_residual-in_err-push.result KernelFault.NoMemory c.from_residual-in_err-push.ensures.1 tt

pub returns-clause-goes : goal.returns-clause-goes
returns-clause-goes g c = function_asks c.args.work.now.bank.now c.args.store.now (env_of c.args.work.now.bank.now c.args.env.now) c.args.context.now c.args.waiting.now c.args.kind c.requires.lent.store c.requires.lent.kept c.args.work.now.ticks.now.left c.product_form.new.work.ticks.now.left c.product_form.new.work.bank.now c.product_form.new.work.bank.now c.in_ok-domain.ensures.grows (Grows-refl c.product_form.new.work.bank.now) c.args.context.now c.push.new.self c.args.argument c.in_ok-domain.domain c.in_ok-domain.rest c.requires.turn refl c.in_ok-push.ensures.ok c.in_ok-domain.ensures.answer.0 c.in_ok-domain.ensures.answer.1 c.in_ok-domain.ensures.answer.2
