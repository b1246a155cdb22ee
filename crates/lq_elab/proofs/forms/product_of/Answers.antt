use Rattle.lq_terms.specs.Terms.{tree_of}
use Rattle.lq_terms.specs.Contexts.{context_of}
use Rattle.lq_evars.specs.Places.{store_of}
use Rattle.lq_elab.proofs.HeadForms.{product_stops}
use Rattle.lq_elab.proofs.FormLaws.{product_answer, product_domain, product_rest}
use Rattle.lq_elab.proofs.forms.product_of.Goals as goal

pub returns-in-Ok-clause-answer : goal.returns-in-Ok-clause-answer
returns-in-Ok-clause-answer g c = λ e x. product_answer e (context_of c.args.work.now.bank.now c.args.context.now) (store_of c.args.work.now.bank.now c.args.store.now) (tree_of c.args.work.now.bank.now c.args.kind) c.args.work.now.ticks.now.left c.head_form.new.work.ticks.now.left c.head_form.new.work.bank.now c.in-Ok.form c.in-Ok.ensures.has (c.in-Ok.ensures.answer e x) c.as_product.result c.as_product.ensures

pub returns-in-Ok-clause-domain : goal.returns-in-Ok-clause-domain
returns-in-Ok-clause-domain g c = product_domain (store_of c.args.work.now.bank.now c.args.store.now) c.requires.kept (context_of c.args.work.now.bank.now c.args.context.now) c.head_form.new.work.bank.now c.in-Ok.form c.in-Ok.ensures.stands c.as_product.result c.as_product.ensures

pub returns-in-Ok-clause-rest : goal.returns-in-Ok-clause-rest
returns-in-Ok-clause-rest g c = product_rest (store_of c.args.work.now.bank.now c.args.store.now) c.requires.kept (context_of c.args.work.now.bank.now c.args.context.now) c.head_form.new.work.bank.now c.in-Ok.form c.in-Ok.ensures.stands c.as_product.result c.as_product.ensures

pub returns-in-Err-clause-answer : goal.returns-in-Err-clause-answer
returns-in-Err-clause-answer g c = λ e x. product_stops e (context_of c.args.work.now.bank.now c.args.context.now) (store_of c.args.work.now.bank.now c.args.store.now) (tree_of c.args.work.now.bank.now c.args.kind) c.args.work.now.ticks.now.left c.head_form.new.work.ticks.now.left c.head_form.new.work.bank.now c.in-Err.fault (c.in-Err.ensures.answer e x)
