use Rattle.std.proofs.Common.{◌∙◌, ap, sym, map}
use Rattle.std.proofs.Common.{subst as along}
use Rattle.std.specs.List.{AllByRecursion}
use Rattle.lq_terms.specs.Terms.{HasTerm, tree_of}
use Rattle.lq_unify.proofs.PartLaws.{parts_prod, parts_lam, parts_let, parts_app, parts_evar, parts_have, no_parts, if_parts}
use Rattle.lq_unify.proofs.parts.parts_of.Goals as goal

pub returns-in-Prod-clause-are : goal.returns-in-Prod-clause-are
returns-in-Prod-clause-are c = if_parts c.args.bank.now c.two.result (λ ts. ts.items) _ (tree_of c.args.bank.now c.args.term) c.two.ensures (parts_prod c.args.bank.now c.node.result.now c.args.term c.node.ensures.tree c.in-Prod.field-0 c.in-Prod.kind c.in-Prod.rest c.in-Prod.is)

pub returns-in-Lam-clause-are : goal.returns-in-Lam-clause-are
returns-in-Lam-clause-are c = if_parts c.args.bank.now c.two-in-Lam.result (λ ts. ts.items) _ (tree_of c.args.bank.now c.args.term) c.two-in-Lam.ensures (parts_lam c.args.bank.now c.node.result.now c.args.term c.node.ensures.tree c.in-Lam.field-0 c.in-Lam.kind c.in-Lam.rest c.in-Lam.is)

pub returns-in-Let-clause-are : goal.returns-in-Let-clause-are
returns-in-Let-clause-are c = if_parts c.args.bank.now c.three.result (λ ts. ts.items) _ (tree_of c.args.bank.now c.args.term) c.three.ensures (parts_let c.args.bank.now c.node.result.now c.args.term c.node.ensures.tree c.in-Let.field-0 c.in-Let.value c.in-Let.kind c.in-Let.rest c.in-Let.is)

pub returns-in-App-clause-are : goal.returns-in-App-clause-are
returns-in-App-clause-are c = if_parts c.args.bank.now c.two-in-App.result (λ ts. ts.items) _ (tree_of c.args.bank.now c.args.term) c.two-in-App.ensures (parts_app c.args.bank.now c.node.result.now c.args.term c.node.ensures.tree c.in-App.function c.in-App.argument c.in-App.is)

pub returns-in_ok-parts-in-Evar-clause-are : goal.returns-in_ok-parts-in-Evar-clause-are
returns-in_ok-parts-in-Evar-clause-are c =
    ap (map (tree_of c.args.bank.now)) (c.in_ok-parts-in-Evar.ensures.items ∙ c.terms.ensures) ∙ parts_evar c.args.bank.now c.node.result.now c.args.term c.node.ensures.tree c.in-Evar.field-0 c.in-Evar.parts c.in-Evar.is

pub returns-in_ok-parts-in-Evar-clause-has : goal.returns-in_ok-parts-in-Evar-clause-has
returns-in_ok-parts-in-Evar-clause-has c =
    along (AllByRecursion (HasTerm c.args.bank.now)) (sym (c.in_ok-parts-in-Evar.ensures.items ∙ c.terms.ensures)) (parts_have c.args.bank.now c.args.term c.in-Evar.parts (rw c.in-Evar.is at c.node.ensures.parts))

pub returns-in-Rel-clause-are : goal.returns-in-Rel-clause-are
returns-in-Rel-clause-are c = no_parts c.args.bank.now c.node.result.now c.args.term c.new.result.items c.node.ensures.tree c.in-Rel.is c.new.ensures.items
