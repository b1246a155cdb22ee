use Rattle.lq_env.specs.Environments.{env_of}
use Rattle.lq_evars.specs.Places.{store_of}
use Rattle.lq_kernel.specs.Steps.{Sorts}
use Rattle.lq_kernel.proofs.Goes.{err_out}
use Rattle.lq_solving.specs.Stores.{read_context}
use Rattle.lq_terms.specs.Contexts.{context_of}
use Rattle.lq_terms.specs.Terms.{tree_of}
use Rattle.lq_typing.specs.Kinds.{needed_sort}
use Rattle.lq_typing.proofs.FormLaws.{sort_refused, sort_answers}
use Rattle.lq_typing.proofs.MeasureLaws.{sorts_fewer}
use Rattle.lq_typing.proofs.forms.sort_form.Goals as goal

pub as_sort-requires : goal.as_sort-requires
as_sort-requires g c = c.in_ok-form.ensures.answer.0.has

pub returns-in_err-form-clause-answer : goal.returns-in_err-form-clause-answer
returns-in_err-form-clause-answer g c =
    err_out (λ z. Sorts c.head_form.new.work.bank.now z (λ n. needed_sort (env_of c.args.work.now.bank.now c.args.env.now) n (read_context (store_of c.args.work.now.bank.now c.args.store.now) (context_of c.args.work.now.bank.now c.args.context.now)) (tree_of c.args.work.now.bank.now c.args.term)) c.args.work.now.ticks.now.left c.head_form.new.work.ticks.now.left)
    c.from_residual.result c.in_err-form.field-0.0 c.from_residual.ensures.1
    (sort_refused (env_of c.args.work.now.bank.now c.args.env.now) (read_context (store_of c.args.work.now.bank.now c.args.store.now) (context_of c.args.work.now.bank.now c.args.context.now)) (tree_of c.args.work.now.bank.now c.args.term) (store_of c.args.work.now.bank.now c.args.store.now) (context_of c.args.work.now.bank.now c.args.context.now)
    c.head_form.new.work.bank.now c.args.work.now.ticks.now.left c.head_form.new.work.ticks.now.left c.in_err-form.field-0.0 c.in_err-form.ensures.answer)

pub returns-clause-answer : goal.returns-clause-answer
returns-clause-answer g c =
    sort_answers (env_of c.args.work.now.bank.now c.args.env.now) (read_context (store_of c.args.work.now.bank.now c.args.store.now) (context_of c.args.work.now.bank.now c.args.context.now)) (tree_of c.args.work.now.bank.now c.args.term) (store_of c.args.work.now.bank.now c.args.store.now) (context_of c.args.work.now.bank.now c.args.context.now)
    c.head_form.new.work.bank.now c.args.work.now.ticks.now.left c.head_form.new.work.ticks.now.left c.in_ok-form.form c.in_ok-form.ensures.answer c.as_sort.result c.as_sort.ensures

pub returns-clause-fewer : goal.returns-clause-fewer
returns-clause-fewer g c =
    sorts_fewer c.head_form.new.work.bank.now c.as_sort.result _ c.args.work.now.ticks.now.left c.head_form.new.work.ticks.now.left
    (sort_answers (env_of c.args.work.now.bank.now c.args.env.now) (read_context (store_of c.args.work.now.bank.now c.args.store.now) (context_of c.args.work.now.bank.now c.args.context.now)) (tree_of c.args.work.now.bank.now c.args.term) (store_of c.args.work.now.bank.now c.args.store.now) (context_of c.args.work.now.bank.now c.args.context.now)
    c.head_form.new.work.bank.now c.args.work.now.ticks.now.left c.head_form.new.work.ticks.now.left c.in_ok-form.form c.in_ok-form.ensures.answer c.as_sort.result c.as_sort.ensures)
