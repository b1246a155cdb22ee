use Rattle.lq_terms.specs.Terms.{tree_of}
use Rattle.lq_terms.specs.Contexts.{context_of}
use Rattle.lq_evars.specs.Places.{store_of}
use Rattle.lq_elab.proofs.HeadForms.{sort_stops}
use Rattle.lq_elab.proofs.FormLaws.{sort_answer}
use Rattle.lq_elab.proofs.forms.sort_of.Goals as goal

pub returns-in-Ok-clause-answer : goal.returns-in-Ok-clause-answer
returns-in-Ok-clause-answer g c = λ e t x. sort_answer e (context_of c.args.work.now.bank.now c.args.context.now) (store_of c.args.work.now.bank.now c.args.store.now) (tree_of c.args.work.now.bank.now c.args.kind) c.args.work.now.ticks.now.left c.head_form.new.work.ticks.now.left c.head_form.new.work.bank.now c.in-Ok.form c.in-Ok.ensures.has (c.in-Ok.ensures.answer e x) t c.as_sort.result c.as_sort.ensures

pub returns-in-Err-clause-answer : goal.returns-in-Err-clause-answer
returns-in-Err-clause-answer g c = λ e t x. sort_stops e (context_of c.args.work.now.bank.now c.args.context.now) (store_of c.args.work.now.bank.now c.args.store.now) (tree_of c.args.work.now.bank.now c.args.kind) c.args.work.now.ticks.now.left c.head_form.new.work.ticks.now.left c.head_form.new.work.bank.now t c.in-Err.fault (c.in-Err.ensures.answer e x)
