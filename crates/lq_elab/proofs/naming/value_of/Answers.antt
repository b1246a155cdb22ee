use Rattle.std.proofs.Common.{◌∙◌, sym, ap}
use Rattle.std.proofs.Common.{subst as along}
use Rattle.std.specs.Prelude.{not}
use Rattle.lq_trees.specs.Ticks.{done, ComesTo}
use Rattle.lq_trees.proofs.Outcomes.{comes_fails}
use Rattle.lq_terms.specs.Terms.{text_of, tree_of}
use Rattle.lq_solving.specs.Stores.{names_in, read}
use Rattle.lq_solving.specs.ElabFaults.{unknown}
use Rattle.lq_solving.specs.Elaboration.{found, value_found, given_term}
use Rattle.lq_solving.proofs.ElabSettled.{at}
use Rattle.lq_evars.specs.Places.{store_of}
use Rattle.lq_elab.specs.States.{site_of}
use Rattle.lq_elab.proofs.NameLaws.{only_holds, strange_value, value_comes, value_refuses}
use Rattle.lq_elab.proofs.naming.value_of.Goals as goal

pub returns-in-Ok-true-clause-answer : goal.returns-in-Ok-true-clause-answer
returns-in-Ok-true-clause-answer g c =
    (c.requires.name, comes_fails (λ n. value_found (at n (site_of c.args.work.now.bank.now c.args.site.now)) (store_of c.args.work.now.bank.now c.args.store.now) (text_of c.args.work.now.bank.now c.args.name) (given_term (tree_of c.args.work.now.bank.now c.args.term))) (unknown (text_of c.args.work.now.bank.now c.args.name)) c.args.work.now.ticks.now.left (strange_value (site_of c.args.work.now.bank.now c.args.site.now) (store_of c.args.work.now.bank.now c.args.store.now) (text_of c.args.work.now.bank.now c.args.name) (tree_of c.args.work.now.bank.now c.args.term) (c.in-Ok-true.ensures ∙ ap not c.in-Ok-true.field-0-test)))

pub type_of-requires-clause-term : goal.type_of-requires-clause-term
type_of-requires-clause-term g c = record {
  over = c.requires.over;
  within = c.requires.within;
  holds = only_holds (names_in (site_of c.args.work.now.bank.now c.args.site.now).outer) (read (store_of c.args.work.now.bank.now c.args.store.now) (tree_of c.args.work.now.bank.now c.args.term)) (c.in-Ok-false.ensures ∙ ap not c.in-Ok-false.field-0-test);
}

pub returns-in-Ok-clause-answer : goal.returns-in-Ok-clause-answer
returns-in-Ok-clause-answer g c =
    along (λ z. ComesTo (λ n. value_found (at n (site_of c.args.work.now.bank.now c.args.site.now)) (store_of c.args.work.now.bank.now c.args.store.now) (text_of c.args.work.now.bank.now c.args.name) (given_term (tree_of c.args.work.now.bank.now c.args.term))) c.args.work.now.ticks.now.left (done (found (store_of c.args.work.now.bank.now c.args.store.now) z (tree_of c.type_of.new.work.bank.now c.in-Ok.kind)) c.type_of.new.work.ticks.now.left)) (sym (c.in-Ok.ensures.grows.tree c.args.term c.requires.term))
    (value_comes (site_of c.args.work.now.bank.now c.args.site.now) (store_of c.args.work.now.bank.now c.args.store.now) (text_of c.args.work.now.bank.now c.args.name) (tree_of c.args.work.now.bank.now c.args.term) (tree_of c.type_of.new.work.bank.now c.in-Ok.kind) c.args.work.now.ticks.now.left c.type_of.new.work.ticks.now.left (c.in-Ok-false.ensures ∙ ap not c.in-Ok-false.field-0-test) c.in-Ok.ensures.answer.1)

pub returns-in-Err-type_of-clause-answer : goal.returns-in-Err-type_of-clause-answer
returns-in-Err-type_of-clause-answer g c = value_refuses (site_of c.args.work.now.bank.now c.args.site.now) (store_of c.args.work.now.bank.now c.args.store.now) (text_of c.args.work.now.bank.now c.args.name) (tree_of c.args.work.now.bank.now c.args.term) c.type_of.new.work.bank.now c.in-Err-type_of.fault c.args.work.now.ticks.now.left c.type_of.new.work.ticks.now.left (c.in-Ok-false.ensures ∙ ap not c.in-Ok-false.field-0-test) c.in-Err-type_of.ensures.answer
