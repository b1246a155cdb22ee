use Rattle.lq_env.specs.Environments.{env_of}
use Rattle.lq_evars.specs.Places.{store_of}
use Rattle.lq_kernel.proofs.Goes.{err_out}
use Rattle.lq_solving.specs.Stores.{read_context}
use Rattle.lq_terms.specs.Contexts.{context_of}
use Rattle.lq_terms.specs.Terms.{tree_of}
use Rattle.lq_typing.specs.Kinds.{Splits, needed_product}
use Rattle.lq_typing.proofs.FormLaws.{product_refused, product_answers}
use Rattle.lq_typing.proofs.MeasureLaws.{splits_fewer}
use Rattle.lq_typing.proofs.forms.product_form.Goals as goal

pub as_product-requires : goal.as_product-requires
as_product-requires g c = c.in_ok-form.ensures.answer.0.has

pub returns-in_err-form-clause-answer : goal.returns-in_err-form-clause-answer
returns-in_err-form-clause-answer g c =
    err_out (λ z. Splits c.head_form.new.work.bank.now z (store_of c.args.work.now.bank.now c.args.store.now) (context_of c.args.work.now.bank.now c.args.context.now) (λ n. needed_product (env_of c.args.work.now.bank.now c.args.env.now) n (read_context (store_of c.args.work.now.bank.now c.args.store.now) (context_of c.args.work.now.bank.now c.args.context.now)) (tree_of c.args.work.now.bank.now c.args.term)) c.args.work.now.ticks.now.left c.head_form.new.work.ticks.now.left)
    c.from_residual.result c.in_err-form.field-0.0 c.from_residual.ensures.1
    (product_refused (env_of c.args.work.now.bank.now c.args.env.now) (read_context (store_of c.args.work.now.bank.now c.args.store.now) (context_of c.args.work.now.bank.now c.args.context.now)) (tree_of c.args.work.now.bank.now c.args.term) (store_of c.args.work.now.bank.now c.args.store.now) (context_of c.args.work.now.bank.now c.args.context.now)
    c.head_form.new.work.bank.now c.args.work.now.ticks.now.left c.head_form.new.work.ticks.now.left c.in_err-form.field-0.0 c.in_err-form.ensures.answer)

pub returns-clause-answer : goal.returns-clause-answer
returns-clause-answer g c =
    product_answers (env_of c.args.work.now.bank.now c.args.env.now) (read_context (store_of c.args.work.now.bank.now c.args.store.now) (context_of c.args.work.now.bank.now c.args.context.now)) (tree_of c.args.work.now.bank.now c.args.term) (store_of c.args.work.now.bank.now c.args.store.now) (context_of c.args.work.now.bank.now c.args.context.now)
    c.head_form.new.work.bank.now c.args.work.now.ticks.now.left c.head_form.new.work.ticks.now.left c.in_ok-form.form c.in_ok-form.ensures.answer c.as_product.result c.as_product.ensures

pub returns-clause-fewer : goal.returns-clause-fewer
returns-clause-fewer g c =
    splits_fewer c.head_form.new.work.bank.now c.as_product.result _ _ _ c.args.work.now.ticks.now.left c.head_form.new.work.ticks.now.left
    (product_answers (env_of c.args.work.now.bank.now c.args.env.now) (read_context (store_of c.args.work.now.bank.now c.args.store.now) (context_of c.args.work.now.bank.now c.args.context.now)) (tree_of c.args.work.now.bank.now c.args.term) (store_of c.args.work.now.bank.now c.args.store.now) (context_of c.args.work.now.bank.now c.args.context.now)
    c.head_form.new.work.bank.now c.args.work.now.ticks.now.left c.head_form.new.work.ticks.now.left c.in_ok-form.form c.in_ok-form.ensures.answer c.as_product.result c.as_product.ensures)
