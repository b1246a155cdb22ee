use Rattle.std.specs.List.{AllByRecursion}
use Rattle.std.proofs.Common.{sym}
use Rattle.std.proofs.Common.{subst as along}
use Rattle.lq_terms.specs.Terms.{HasTerm, text_of}
use Rattle.lq_env.proofs.SpineLaws.{found_two, lighter_two, found_app, lighter_app, found_let, lighter_let, found_evar, lighter_evar, found_leaf, found_family, parts_have, all_both}
use Rattle.lq_env.proofs.spines.is_family.Goals as goal

pub returns-in_ok-push_three-in-Let-clause-found : goal.returns-in_ok-push_three-in-Let-clause-found
returns-in_ok-push_three-in-Let-clause-found c =
    found_let c.args.bank.now (text_of c.args.bank.now c.args.name) c.args.stack.now.items c.push_three.new.stack.items c.in-Let.value c.in-Let.kind c.in-Let.rest c.node.result.now c.args.term c.node.ensures.tree c.in_ok-push_three-in-Let.ensures c.in-Let.field-0 c.in-Let.is

pub returns-in_ok-push_three-in-Let-clause-falls : goal.returns-in_ok-push_three-in-Let-clause-falls
returns-in_ok-push_three-in-Let-clause-falls c =
    lighter_let c.args.bank.now (text_of c.args.bank.now c.args.name) c.args.stack.now.items c.push_three.new.stack.items c.in-Let.value c.in-Let.kind c.in-Let.rest c.node.result.now c.args.term c.node.ensures.tree c.in_ok-push_three-in-Let.ensures c.in-Let.field-0 c.in-Let.is

pub returns-in_ok-push_two-in-App-clause-found : goal.returns-in_ok-push_two-in-App-clause-found
returns-in_ok-push_two-in-App-clause-found c =
    found_app c.args.bank.now (text_of c.args.bank.now c.args.name) c.args.stack.now.items c.push_two.new.stack.items c.in-App.function c.in-App.argument c.node.result.now c.args.term c.node.ensures.tree c.in_ok-push_two-in-App.ensures c.in-App.is

pub returns-in_ok-push_two-in-App-clause-falls : goal.returns-in_ok-push_two-in-App-clause-falls
returns-in_ok-push_two-in-App-clause-falls c =
    lighter_app c.args.bank.now (text_of c.args.bank.now c.args.name) c.args.stack.now.items c.push_two.new.stack.items c.in-App.function c.in-App.argument c.node.result.now c.args.term c.node.ensures.tree c.in_ok-push_two-in-App.ensures c.in-App.is

pub returns-in_ok-push_two-in-Prod-clause-found : goal.returns-in_ok-push_two-in-Prod-clause-found
returns-in_ok-push_two-in-Prod-clause-found c =
    found_two c.args.bank.now (text_of c.args.bank.now c.args.name) c.args.stack.now.items c.push_two-in-Prod.new.stack.items c.in-Prod.kind c.in-Prod.rest c.node.result.now c.args.term c.node.ensures.tree c.in_ok-push_two-in-Prod.ensures c.in-Prod.is

pub returns-in_ok-push_two-in-Prod-clause-falls : goal.returns-in_ok-push_two-in-Prod-clause-falls
returns-in_ok-push_two-in-Prod-clause-falls c =
    lighter_two c.args.bank.now (text_of c.args.bank.now c.args.name) c.args.stack.now.items c.push_two-in-Prod.new.stack.items c.in-Prod.kind c.in-Prod.rest c.node.result.now c.args.term c.node.ensures.tree c.in_ok-push_two-in-Prod.ensures c.in-Prod.is

pub returns-in_ok-push_each-in-Evar-clause-found : goal.returns-in_ok-push_each-in-Evar-clause-found
returns-in_ok-push_each-in-Evar-clause-found c =
    found_evar c.args.bank.now (text_of c.args.bank.now c.args.name) c.args.stack.now.items c.push_each.new.stack.items c.in-Evar.parts c.in-Evar.field-0 c.node.result.now c.args.term c.node.ensures.tree
    (rw c.terms.ensures at c.in_ok-push_each-in-Evar.ensures) c.in-Evar.is

pub returns-in_ok-push_each-in-Evar-clause-has : goal.returns-in_ok-push_each-in-Evar-clause-has
returns-in_ok-push_each-in-Evar-clause-has c =
    along (λ z. AllByRecursion (HasTerm c.args.bank.now) z) (sym (rw c.terms.ensures at c.in_ok-push_each-in-Evar.ensures))
    (all_both (HasTerm c.args.bank.now) c.args.stack.now.items c.in-Evar.parts c.requires.stack (parts_have c.args.bank.now c.args.term c.in-Evar.parts (rw c.in-Evar.is at c.node.ensures.parts)))

pub returns-in_ok-push_each-in-Evar-clause-falls : goal.returns-in_ok-push_each-in-Evar-clause-falls
returns-in_ok-push_each-in-Evar-clause-falls c =
    lighter_evar c.args.bank.now (text_of c.args.bank.now c.args.name) c.args.stack.now.items c.push_each.new.stack.items c.in-Evar.parts c.in-Evar.field-0 c.node.result.now c.args.term c.node.ensures.tree
    (rw c.terms.ensures at c.in_ok-push_each-in-Evar.ensures) c.in-Evar.is

pub returns-in-Ind-clause-found : goal.returns-in-Ind-clause-found
returns-in-Ind-clause-found c =
    found_family c.args.bank.now (text_of c.args.bank.now c.args.name) c.args.stack.now.items c.node.result.now c.args.term c.node.ensures.tree c.in-Ind.family c.same_name.result c.in-Ind.is c.same_name.ensures

pub returns-in-Rel-clause-found : goal.returns-in-Rel-clause-found
returns-in-Rel-clause-found c = found_leaf c.args.bank.now (text_of c.args.bank.now c.args.name) c.args.stack.now.items c.node.result.now c.args.term c.node.ensures.tree c.in-Rel.is

pub returns-in-Rel-2-clause-found : goal.returns-in-Rel-2-clause-found
returns-in-Rel-2-clause-found c = found_leaf c.args.bank.now (text_of c.args.bank.now c.args.name) c.args.stack.now.items c.node.result.now c.args.term c.node.ensures.tree c.in-Rel.is

pub returns-in-Rel-3-clause-found : goal.returns-in-Rel-3-clause-found
returns-in-Rel-3-clause-found c = found_leaf c.args.bank.now (text_of c.args.bank.now c.args.name) c.args.stack.now.items c.node.result.now c.args.term c.node.ensures.tree c.in-Rel.is

pub returns-in-Rel-4-clause-found : goal.returns-in-Rel-4-clause-found
returns-in-Rel-4-clause-found c = found_leaf c.args.bank.now (text_of c.args.bank.now c.args.name) c.args.stack.now.items c.node.result.now c.args.term c.node.ensures.tree c.in-Rel.is

pub returns-in-Rel-5-clause-found : goal.returns-in-Rel-5-clause-found
returns-in-Rel-5-clause-found c = found_leaf c.args.bank.now (text_of c.args.bank.now c.args.name) c.args.stack.now.items c.node.result.now c.args.term c.node.ensures.tree c.in-Rel.is

pub returns-in-Rel-6-clause-found : goal.returns-in-Rel-6-clause-found
returns-in-Rel-6-clause-found c = found_leaf c.args.bank.now (text_of c.args.bank.now c.args.name) c.args.stack.now.items c.node.result.now c.args.term c.node.ensures.tree c.in-Rel.is
