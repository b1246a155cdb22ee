use Rattle.std.proofs.Common.{sym, None}
use Rattle.std.proofs.Common.{subst as along}
use Rattle.std.specs.Prelude.{option_map}
use Rattle.lq_trees.specs.Ticks.{done, ComesTo}
use Rattle.lq_terms.specs.Terms.{tree_of}
use Rattle.lq_terms.specs.Contexts.{context_of}
use Rattle.lq_solving.specs.Elaboration.{wanted_product}
use Rattle.lq_solving.proofs.ElabSettled.{at}
use Rattle.lq_evars.specs.Places.{store_of}
use Rattle.lq_typing.specs.Refusals.{Refuses}
use Rattle.lq_elab.specs.Frames.{pair_of}
use Rattle.lq_elab.proofs.HeadForms.{wanted_stops, none_wanted}
use Rattle.lq_elab.proofs.FormLaws.{wanted_answer, pair_stands}
use Rattle.lq_elab.proofs.forms.wanted_parts.Goals as goal

pub returns-in-Ok-clause-answer : goal.returns-in-Ok-clause-answer
returns-in-Ok-clause-answer g c = λ e x.
    along (λ o. ComesTo (λ n. wanted_product (at n e) (context_of c.args.work.now.bank.now c.args.context.now) (store_of c.args.work.now.bank.now c.args.store.now) (option_map (tree_of c.args.work.now.bank.now) o)) c.args.work.now.ticks.now.left (done (option_map (pair_of c.head_form.new.work.bank.now) c.parts_of.result) c.head_form.new.work.ticks.now.left)) (sym c.in-Some.is)
    (wanted_answer e (context_of c.args.work.now.bank.now c.args.context.now) (store_of c.args.work.now.bank.now c.args.store.now) (tree_of c.args.work.now.bank.now c.in-Some.kind) c.args.work.now.ticks.now.left c.head_form.new.work.ticks.now.left c.head_form.new.work.bank.now c.in-Ok.form c.in-Ok.ensures.has (c.in-Ok.ensures.answer e x) c.parts_of.result c.parts_of.ensures)

pub returns-in-Ok-clause-product_stands : goal.returns-in-Ok-clause-product_stands
returns-in-Ok-clause-product_stands g c = pair_stands (store_of c.args.work.now.bank.now c.args.store.now) c.requires.kept (context_of c.args.work.now.bank.now c.args.context.now) c.head_form.new.work.bank.now c.in-Ok.form c.in-Ok.ensures.stands c.parts_of.result c.parts_of.ensures

pub returns-in-Err-clause-answer : goal.returns-in-Err-clause-answer
returns-in-Err-clause-answer g c = λ e x.
    along (λ o. Refuses c.head_form.new.work.bank.now c.in-Err.fault (λ n. wanted_product (at n e) (context_of c.args.work.now.bank.now c.args.context.now) (store_of c.args.work.now.bank.now c.args.store.now) (option_map (tree_of c.args.work.now.bank.now) o)) c.args.work.now.ticks.now.left c.head_form.new.work.ticks.now.left) (sym c.in-Some.is)
    (wanted_stops e (context_of c.args.work.now.bank.now c.args.context.now) (store_of c.args.work.now.bank.now c.args.store.now) (tree_of c.args.work.now.bank.now c.in-Some.kind) c.args.work.now.ticks.now.left c.head_form.new.work.ticks.now.left c.head_form.new.work.bank.now c.in-Err.fault (c.in-Err.ensures.answer e x))

pub returns-in-None-clause-answer : goal.returns-in-None-clause-answer
returns-in-None-clause-answer g c = λ e x. along (λ o. ComesTo (λ n. wanted_product (at n e) (context_of c.args.work.now.bank.now c.args.context.now) (store_of c.args.work.now.bank.now c.args.store.now) (option_map (tree_of c.args.work.now.bank.now) o)) c.args.work.now.ticks.now.left (done None c.args.work.now.ticks.now.left)) (sym c.in-None.is) (none_wanted e (context_of c.args.work.now.bank.now c.args.context.now) (store_of c.args.work.now.bank.now c.args.store.now) c.args.work.now.ticks.now.left)
