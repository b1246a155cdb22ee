use Rattle.std.proofs.Common.{arith, map, IfOk}
use Rattle.std.proofs.Common.{subst as along}
use Rattle.lq_terms.specs.Terms.{IsTerm, tree_of}
use Rattle.lq_unify.proofs.PartLaws.{many_prod, many_lam, many_let, many_app, prod_made, lam_made, let_made, app_made, evar_made, leaf_made}
use Rattle.lq_unify.proofs.parts.with_parts.Goals as goal

pub bounds-parts-0 : goal.bounds-parts-0
bounds-parts-0 c = omega (arith, many_prod c.args.bank.now c.node.result.now c.args.term c.node.ensures.tree c.args.parts.now c.requires.as_many c.in-Prod.binder c.in-Prod.field-1 c.in-Prod.field-2 c.in-Prod.is)

pub bounds-parts-1 : goal.bounds-parts-1
bounds-parts-1 c = omega (arith, many_prod c.args.bank.now c.node.result.now c.args.term c.node.ensures.tree c.args.parts.now c.requires.as_many c.in-Prod.binder c.in-Prod.field-1 c.in-Prod.field-2 c.in-Prod.is)

pub returns-in-Prod-clause-made : goal.returns-in-Prod-clause-made
returns-in-Prod-clause-made c =
    along (λ z. IfOk c.make.result (λ t. IsTerm c.make.new.self t z)) (prod_made c.args.bank.now c.node.result.now c.args.term c.node.ensures.tree c.args.parts.now c.requires.as_many c.in-Prod.binder c.in-Prod.field-1 c.in-Prod.field-2 (record { place = 0 }) c.in-Prod.is) c.make.ensures.made

pub bounds-parts-0-in-Lam : goal.bounds-parts-0-in-Lam
bounds-parts-0-in-Lam c = omega (arith, many_lam c.args.bank.now c.node.result.now c.args.term c.node.ensures.tree c.args.parts.now c.requires.as_many c.in-Lam.binder c.in-Lam.field-1 c.in-Lam.field-2 c.in-Lam.is)

pub bounds-parts-1-in-Lam : goal.bounds-parts-1-in-Lam
bounds-parts-1-in-Lam c = omega (arith, many_lam c.args.bank.now c.node.result.now c.args.term c.node.ensures.tree c.args.parts.now c.requires.as_many c.in-Lam.binder c.in-Lam.field-1 c.in-Lam.field-2 c.in-Lam.is)

pub returns-in-Lam-clause-made : goal.returns-in-Lam-clause-made
returns-in-Lam-clause-made c =
    along (λ z. IfOk c.make-in-Lam.result (λ t. IsTerm c.make-in-Lam.new.self t z)) (lam_made c.args.bank.now c.node.result.now c.args.term c.node.ensures.tree c.args.parts.now c.requires.as_many c.in-Lam.binder c.in-Lam.field-1 c.in-Lam.field-2 (record { place = 0 }) c.in-Lam.is) c.make-in-Lam.ensures.made

pub bounds-parts-0-in-Let : goal.bounds-parts-0-in-Let
bounds-parts-0-in-Let c = omega (arith, many_let c.args.bank.now c.node.result.now c.args.term c.node.ensures.tree c.args.parts.now c.requires.as_many c.in-Let.binder c.in-Let.field-1 c.in-Let.field-2 c.in-Let.field-3 c.in-Let.is)

pub bounds-parts-1-in-Let : goal.bounds-parts-1-in-Let
bounds-parts-1-in-Let c = omega (arith, many_let c.args.bank.now c.node.result.now c.args.term c.node.ensures.tree c.args.parts.now c.requires.as_many c.in-Let.binder c.in-Let.field-1 c.in-Let.field-2 c.in-Let.field-3 c.in-Let.is)

pub bounds-parts-2 : goal.bounds-parts-2
bounds-parts-2 c = omega (arith, many_let c.args.bank.now c.node.result.now c.args.term c.node.ensures.tree c.args.parts.now c.requires.as_many c.in-Let.binder c.in-Let.field-1 c.in-Let.field-2 c.in-Let.field-3 c.in-Let.is)

pub returns-in-Let-clause-made : goal.returns-in-Let-clause-made
returns-in-Let-clause-made c =
    along (λ z. IfOk c.make-in-Let.result (λ t. IsTerm c.make-in-Let.new.self t z)) (let_made c.args.bank.now c.node.result.now c.args.term c.node.ensures.tree c.args.parts.now c.requires.as_many c.in-Let.binder c.in-Let.field-1 c.in-Let.field-2 c.in-Let.field-3 (record { place = 0 }) c.in-Let.is) c.make-in-Let.ensures.made

pub bounds-parts-0-in-App : goal.bounds-parts-0-in-App
bounds-parts-0-in-App c = omega (arith, many_app c.args.bank.now c.node.result.now c.args.term c.node.ensures.tree c.args.parts.now c.requires.as_many c.in-App.field-0 c.in-App.field-1 c.in-App.is)

pub bounds-parts-1-in-App : goal.bounds-parts-1-in-App
bounds-parts-1-in-App c = omega (arith, many_app c.args.bank.now c.node.result.now c.args.term c.node.ensures.tree c.args.parts.now c.requires.as_many c.in-App.field-0 c.in-App.field-1 c.in-App.is)

pub returns-in-App-clause-made : goal.returns-in-App-clause-made
returns-in-App-clause-made c =
    along (λ z. IfOk c.make-in-App.result (λ t. IsTerm c.make-in-App.new.self t z)) (app_made c.args.bank.now c.node.result.now c.args.term c.node.ensures.tree c.args.parts.now c.requires.as_many c.in-App.field-0 c.in-App.field-1 (record { place = 0 }) c.in-App.is) c.make-in-App.ensures.made

pub returns-in-Evar-clause-made : goal.returns-in-Evar-clause-made
returns-in-Evar-clause-made c =
    along (λ z. IfOk c.variable_with.result (λ t. IsTerm c.variable_with.new.bank t z)) (evar_made c.args.bank.now c.node.result.now c.args.term c.node.ensures.tree c.args.parts.now c.requires.as_many c.in-Evar.variable c.in-Evar.field-1 c.in-Evar.is) c.variable_with.ensures.made

pub returns-in-Rel-clause-made : goal.returns-in-Rel-clause-made
returns-in-Rel-clause-made c = record { has = c.requires.term; is = leaf_made c.args.bank.now c.node.result.now c.args.term (map (tree_of c.args.bank.now) c.args.parts.now) c.node.ensures.tree c.in-Rel.is }

pub returns-in-Rel-2-clause-made : goal.returns-in-Rel-2-clause-made
returns-in-Rel-2-clause-made c = record { has = c.requires.term; is = leaf_made c.args.bank.now c.node.result.now c.args.term (map (tree_of c.args.bank.now) c.args.parts.now) c.node.ensures.tree c.in-Rel.is }

pub returns-in-Rel-3-clause-made : goal.returns-in-Rel-3-clause-made
returns-in-Rel-3-clause-made c = record { has = c.requires.term; is = leaf_made c.args.bank.now c.node.result.now c.args.term (map (tree_of c.args.bank.now) c.args.parts.now) c.node.ensures.tree c.in-Rel.is }

pub returns-in-Rel-4-clause-made : goal.returns-in-Rel-4-clause-made
returns-in-Rel-4-clause-made c = record { has = c.requires.term; is = leaf_made c.args.bank.now c.node.result.now c.args.term (map (tree_of c.args.bank.now) c.args.parts.now) c.node.ensures.tree c.in-Rel.is }

pub returns-in-Rel-5-clause-made : goal.returns-in-Rel-5-clause-made
returns-in-Rel-5-clause-made c = record { has = c.requires.term; is = leaf_made c.args.bank.now c.node.result.now c.args.term (map (tree_of c.args.bank.now) c.args.parts.now) c.node.ensures.tree c.in-Rel.is }

pub returns-in-Rel-6-clause-made : goal.returns-in-Rel-6-clause-made
returns-in-Rel-6-clause-made c = record { has = c.requires.term; is = leaf_made c.args.bank.now c.node.result.now c.args.term (map (tree_of c.args.bank.now) c.args.parts.now) c.node.ensures.tree c.in-Rel.is }

pub returns-in-Rel-7-clause-made : goal.returns-in-Rel-7-clause-made
returns-in-Rel-7-clause-made c = record { has = c.requires.term; is = leaf_made c.args.bank.now c.node.result.now c.args.term (map (tree_of c.args.bank.now) c.args.parts.now) c.node.ensures.tree c.in-Rel.is }
