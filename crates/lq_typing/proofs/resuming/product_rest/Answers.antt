use Rattle.lq_terms.proofs.Growth.{Grows-trans}
use Rattle.lq_env.specs.Environments.{env_of}
use Rattle.lq_kernel.specs.declared.faults.KernelFault.{KernelFault}
use Rattle.lq_typing.specs.declared.waiting.Frame.{Frame}
use Rattle.lq_typing.specs.declared.waiting.Turn.{Turn}
use Rattle.lq_typing.specs.Frames.{turn_work}
use Rattle.std.proofs.Common.{◌∷◌}
use Rattle.lq_typing.proofs.TurnLaws.{site_found, kind_found}
use Rattle.lq_typing.proofs.ArmLaws.{product_ends}
use Rattle.lq_typing.proofs.ArmLaws.{sort_made}
use Rattle.lq_typing.proofs.StopLaws.{goes_out, product_rest_stops}
use Rattle.lq_typing.proofs.resuming.product_rest.Goals as goal

pub sort_form-requires-clause-site : goal.sort_form-requires-clause-site
sort_form-requires-clause-site g c = site_found c.args.work.now.bank.now c.args.env.now c.args.store.now c.args.context.now _ c.args.kind c.requires.lent c.requires.turn

pub sort_form-requires-clause-term : goal.sort_form-requires-clause-term
sort_form-requires-clause-term g c = kind_found c.args.work.now.bank.now c.args.store.now c.args.context.now _ c.args.kind c.requires.turn

pub returns-in_err-rest-clause-goes : goal.returns-in_err-rest-clause-goes
returns-in_err-rest-clause-goes g c =
    goes_out c.sort_form.new.work.bank.now c.args.store.now (env_of c.args.work.now.bank.now c.args.env.now) c.args.context.now c.args.waiting.now (turn_work c.args.work.now.bank.now c.args.store.now (env_of c.args.work.now.bank.now c.args.env.now) c.args.context.now (Frame.ProductRest c.args.domain ∷ c.args.waiting.now) (Turn.Found c.args.kind)) c.args.work.now.ticks.now.left c.sort_form.new.work.ticks.now.left c.from_residual.result c.in_err-rest.field-0.0 c.from_residual.ensures.1
    (product_rest_stops c.args.work.now.bank.now c.args.store.now (env_of c.args.work.now.bank.now c.args.env.now) c.args.context.now c.args.waiting.now c.args.kind c.sort_form.new.work.bank.now c.in_err-rest.field-0.0 c.args.work.now.ticks.now.left c.sort_form.new.work.ticks.now.left c.args.domain c.in_err-rest.ensures.answer)

pub returns-in_err-product-clause-goes : goal.returns-in_err-product-clause-goes
returns-in_err-product-clause-goes g c = goes_out c.make.new.self c.args.store.now (env_of c.args.work.now.bank.now c.args.env.now) c.pop.new.self c.args.waiting.now (turn_work c.args.work.now.bank.now c.args.store.now (env_of c.args.work.now.bank.now c.args.env.now) c.args.context.now (Frame.ProductRest c.args.domain ∷ c.args.waiting.now) (Turn.Found c.args.kind)) c.args.work.now.ticks.now.left c.sort_form.new.work.ticks.now.left c.from_residual-in_err-product.result KernelFault.NoMemory c.from_residual-in_err-product.ensures.1 tt

pub returns-clause-goes : goal.returns-clause-goes
returns-clause-goes g c =
    product_ends c.args.work.now.bank.now c.args.store.now (env_of c.args.work.now.bank.now c.args.env.now) c.args.context.now c.args.waiting.now c.args.kind c.requires.lent.store c.requires.lent.kept c.args.work.now.ticks.now.left c.sort_form.new.work.ticks.now.left c.make.new.self (Grows-trans c.args.work.now.bank.now c.sort_form.new.work.bank.now c.make.new.self c.in_ok-rest.ensures.grows c.make.ensures.grows) c.pop.new.self c.pop.result c.pop.ensures c.args.domain c.in_ok-rest.rest c.requires.turn c.in_ok-rest.ensures.answer c.in_ok-product.product
    (sort_made c.make.new.self c.in_ok-product.product _ _ c.product_sort.ensures c.in_ok-product.ensures.made)
