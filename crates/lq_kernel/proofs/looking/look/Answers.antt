use Rattle.std.proofs.Common.{arith, inr, ◌∷◌, [], reverse}
use Rattle.lq_terms.specs.Terms.{tree_of}
use Rattle.lq_terms.specs.Contexts.{context_of}
use Rattle.lq_kernel.proofs.LookLaws.{names_in, looked, looked_leaf, var_known, var_new, parts_two, parts_three, parts_each, lighter, light_two, light_three, light_each, two_of, leaf_none, has_put, has_each}
use Rattle.lq_kernel.proofs.looking.look.Goals as goal

pub returns-in-Some-clause-looked : goal.returns-in-Some-clause-looked
returns-in-Some-clause-looked c = looked_leaf (names_in (context_of c.args.bank.now c.args.hypotheses.now)) c.args.bank.now c.args.stack.now.items (tree_of c.args.bank.now c.args.term) (var_known c.args.bank.now (context_of c.args.bank.now c.args.hypotheses.now) c.node.result.now c.args.term c.in-Var.name _ c.node.ensures.tree c.in-Var.is c.in-Some.ensures.found)

pub returns-in-None-clause-looked : goal.returns-in-None-clause-looked
returns-in-None-clause-looked c = (omega (arith, rw c.in-Var.is at c.node.ensures.parts), var_new c.args.bank.now (context_of c.args.bank.now c.args.hypotheses.now) c.node.result.now c.args.term c.in-Var.name c.node.ensures.tree c.in-Var.is c.in-None.ensures.found)

pub returns-in_ok-push_three-in-Let-clause-looked : goal.returns-in_ok-push_three-in-Let-clause-looked
returns-in_ok-push_three-in-Let-clause-looked c = looked (names_in (context_of c.args.bank.now c.args.hypotheses.now)) c.args.bank.now c.args.stack.now.items c.push_three.new.stack.items (c.in-Let.rest ∷ c.in-Let.kind ∷ c.in-Let.value ∷ []) (tree_of c.args.bank.now c.args.term) c.in_ok-push_three-in-Let.ensures (parts_three (names_in (context_of c.args.bank.now c.args.hypotheses.now)) c.args.bank.now c.node.result.now c.args.term c.in-Let.value c.in-Let.kind c.in-Let.rest c.in-Let.field-0 c.node.ensures.tree c.in-Let.is)

pub returns-in_ok-push_three-in-Let-clause-falls : goal.returns-in_ok-push_three-in-Let-clause-falls
returns-in_ok-push_three-in-Let-clause-falls c = lighter (tree_of c.args.bank.now) c.args.stack.now.items c.push_three.new.stack.items (c.in-Let.rest ∷ c.in-Let.kind ∷ c.in-Let.value ∷ []) (tree_of c.args.bank.now c.args.term) c.in_ok-push_three-in-Let.ensures (light_three c.args.bank.now c.node.result.now c.args.term c.in-Let.value c.in-Let.kind c.in-Let.rest c.in-Let.field-0 c.node.ensures.tree c.in-Let.is)

pub returns-in_ok-push_two-in-App-clause-looked : goal.returns-in_ok-push_two-in-App-clause-looked
returns-in_ok-push_two-in-App-clause-looked c = looked (names_in (context_of c.args.bank.now c.args.hypotheses.now)) c.args.bank.now c.args.stack.now.items c.push_two.new.stack.items (c.in-App.argument ∷ c.in-App.function ∷ []) (tree_of c.args.bank.now c.args.term) c.in_ok-push_two-in-App.ensures (parts_two (names_in (context_of c.args.bank.now c.args.hypotheses.now)) c.args.bank.now c.node.result.now c.args.term c.in-App.function c.in-App.argument c.node.ensures.tree (inr (inr c.in-App.is)))

pub returns-in_ok-push_two-in-App-clause-falls : goal.returns-in_ok-push_two-in-App-clause-falls
returns-in_ok-push_two-in-App-clause-falls c = lighter (tree_of c.args.bank.now) c.args.stack.now.items c.push_two.new.stack.items (c.in-App.argument ∷ c.in-App.function ∷ []) (tree_of c.args.bank.now c.args.term) c.in_ok-push_two-in-App.ensures (light_two c.args.bank.now c.node.result.now c.args.term c.in-App.function c.in-App.argument c.node.ensures.tree (inr (inr c.in-App.is)))

pub returns-in_ok-push_two-in-Prod-clause-looked : goal.returns-in_ok-push_two-in-Prod-clause-looked
returns-in_ok-push_two-in-Prod-clause-looked c = looked (names_in (context_of c.args.bank.now c.args.hypotheses.now)) c.args.bank.now c.args.stack.now.items c.push_two-in-Prod.new.stack.items (c.in-Prod.rest ∷ c.in-Prod.kind ∷ []) (tree_of c.args.bank.now c.args.term) c.in_ok-push_two-in-Prod.ensures (parts_two (names_in (context_of c.args.bank.now c.args.hypotheses.now)) c.args.bank.now c.node.result.now c.args.term c.in-Prod.kind c.in-Prod.rest c.node.ensures.tree (two_of c.node.result.now c.in-Prod.kind c.in-Prod.rest c.in-Prod.is))

pub returns-in_ok-push_two-in-Prod-clause-falls : goal.returns-in_ok-push_two-in-Prod-clause-falls
returns-in_ok-push_two-in-Prod-clause-falls c = lighter (tree_of c.args.bank.now) c.args.stack.now.items c.push_two-in-Prod.new.stack.items (c.in-Prod.rest ∷ c.in-Prod.kind ∷ []) (tree_of c.args.bank.now c.args.term) c.in_ok-push_two-in-Prod.ensures (light_two c.args.bank.now c.node.result.now c.args.term c.in-Prod.kind c.in-Prod.rest c.node.ensures.tree (two_of c.node.result.now c.in-Prod.kind c.in-Prod.rest c.in-Prod.is))

pub returns-in_ok-push_each-in-Evar-clause-looked : goal.returns-in_ok-push_each-in-Evar-clause-looked
returns-in_ok-push_each-in-Evar-clause-looked c = looked (names_in (context_of c.args.bank.now c.args.hypotheses.now)) c.args.bank.now c.args.stack.now.items c.push_each.new.stack.items (reverse c.in-Evar.parts) (tree_of c.args.bank.now c.args.term) (rw c.terms.ensures at c.in_ok-push_each-in-Evar.ensures) (parts_each (names_in (context_of c.args.bank.now c.args.hypotheses.now)) c.args.bank.now c.node.result.now c.args.term c.in-Evar.parts c.in-Evar.field-0 c.node.ensures.tree c.in-Evar.is)

pub returns-in_ok-push_each-in-Evar-clause-has : goal.returns-in_ok-push_each-in-Evar-clause-has
returns-in_ok-push_each-in-Evar-clause-has c = has_put c.args.bank.now c.args.stack.now.items c.push_each.new.stack.items (reverse c.in-Evar.parts) (rw c.terms.ensures at c.in_ok-push_each-in-Evar.ensures) c.requires.stack (has_each c.args.bank.now c.node.result.now c.args.term c.in-Evar.parts c.in-Evar.field-0 c.node.ensures.parts c.in-Evar.is)

pub returns-in_ok-push_each-in-Evar-clause-falls : goal.returns-in_ok-push_each-in-Evar-clause-falls
returns-in_ok-push_each-in-Evar-clause-falls c = lighter (tree_of c.args.bank.now) c.args.stack.now.items c.push_each.new.stack.items (reverse c.in-Evar.parts) (tree_of c.args.bank.now c.args.term) (rw c.terms.ensures at c.in_ok-push_each-in-Evar.ensures) (light_each c.args.bank.now c.node.result.now c.args.term c.in-Evar.parts c.in-Evar.field-0 c.node.ensures.tree c.in-Evar.is)

pub returns-in-Rel-clause-looked : goal.returns-in-Rel-clause-looked
returns-in-Rel-clause-looked c = looked_leaf (names_in (context_of c.args.bank.now c.args.hypotheses.now)) c.args.bank.now c.args.stack.now.items (tree_of c.args.bank.now c.args.term) (leaf_none c.args.bank.now (names_in (context_of c.args.bank.now c.args.hypotheses.now)) c.node.result.now c.args.term c.node.ensures.tree c.in-Rel.is)

pub returns-in-Rel-2-clause-looked : goal.returns-in-Rel-2-clause-looked
returns-in-Rel-2-clause-looked c = looked_leaf (names_in (context_of c.args.bank.now c.args.hypotheses.now)) c.args.bank.now c.args.stack.now.items (tree_of c.args.bank.now c.args.term) (leaf_none c.args.bank.now (names_in (context_of c.args.bank.now c.args.hypotheses.now)) c.node.result.now c.args.term c.node.ensures.tree c.in-Rel.is)

pub returns-in-Rel-3-clause-looked : goal.returns-in-Rel-3-clause-looked
returns-in-Rel-3-clause-looked c = looked_leaf (names_in (context_of c.args.bank.now c.args.hypotheses.now)) c.args.bank.now c.args.stack.now.items (tree_of c.args.bank.now c.args.term) (leaf_none c.args.bank.now (names_in (context_of c.args.bank.now c.args.hypotheses.now)) c.node.result.now c.args.term c.node.ensures.tree c.in-Rel.is)

pub returns-in-Rel-4-clause-looked : goal.returns-in-Rel-4-clause-looked
returns-in-Rel-4-clause-looked c = looked_leaf (names_in (context_of c.args.bank.now c.args.hypotheses.now)) c.args.bank.now c.args.stack.now.items (tree_of c.args.bank.now c.args.term) (leaf_none c.args.bank.now (names_in (context_of c.args.bank.now c.args.hypotheses.now)) c.node.result.now c.args.term c.node.ensures.tree c.in-Rel.is)

pub returns-in-Rel-5-clause-looked : goal.returns-in-Rel-5-clause-looked
returns-in-Rel-5-clause-looked c = looked_leaf (names_in (context_of c.args.bank.now c.args.hypotheses.now)) c.args.bank.now c.args.stack.now.items (tree_of c.args.bank.now c.args.term) (leaf_none c.args.bank.now (names_in (context_of c.args.bank.now c.args.hypotheses.now)) c.node.result.now c.args.term c.node.ensures.tree c.in-Rel.is)

pub returns-in-Rel-6-clause-looked : goal.returns-in-Rel-6-clause-looked
returns-in-Rel-6-clause-looked c = looked_leaf (names_in (context_of c.args.bank.now c.args.hypotheses.now)) c.args.bank.now c.args.stack.now.items (tree_of c.args.bank.now c.args.term) (leaf_none c.args.bank.now (names_in (context_of c.args.bank.now c.args.hypotheses.now)) c.node.result.now c.args.term c.node.ensures.tree c.in-Rel.is)
