use Rattle.std.proofs.Common.{sym, refl}
use Rattle.std.proofs.Common.{subst as along}
use Rattle.std.specs.Prelude.{map}
use Rattle.lq_trees.specs.Tree.{Tree}
use Rattle.lq_terms.specs.Terms.{text_of, tree_of}
use Rattle.lq_evars.specs.Reading.{AllIn, trees_known}
use Rattle.lq_evars.proofs.Rebuilt.{made_near, parts_at, prod_near, lam_near, let_near, app_near, entries_known, leaf_near}
use Rattle.lq_evars.proofs.rebuilding.rebuilt.Goals as goal

pub known_two-requires-clause-has_first : goal.known_two-requires-clause-has_first
known_two-requires-clause-has_first c = let parts = rw c.in-Prod.is at c.node.ensures.parts in parts.1.has

pub known_two-requires-clause-first : goal.known_two-requires-clause-first
known_two-requires-clause-first c = (parts_at c.args.bank.now c.args.store.now c.args.known.now.entries c.args.term c.requires (Tree.Prod (text_of c.args.bank.now c.in-Prod.binder) (tree_of c.args.bank.now c.in-Prod.kind) (tree_of c.args.bank.now c.in-Prod.rest)) (rw c.in-Prod.is at c.node.ensures.tree)).0

pub known_two-requires-clause-has_second : goal.known_two-requires-clause-has_second
known_two-requires-clause-has_second c = let parts = rw c.in-Prod.is at c.node.ensures.parts in parts.2.has

pub known_two-requires-clause-second : goal.known_two-requires-clause-second
known_two-requires-clause-second c = (parts_at c.args.bank.now c.args.store.now c.args.known.now.entries c.args.term c.requires (Tree.Prod (text_of c.args.bank.now c.in-Prod.binder) (tree_of c.args.bank.now c.in-Prod.kind) (tree_of c.args.bank.now c.in-Prod.rest)) (rw c.in-Prod.is at c.node.ensures.tree)).1.0

pub make-requires : goal.make-requires
make-requires c = let parts = rw c.in-Prod.is at c.node.ensures.parts in (parts.0, c.known_two.ensures.first.has, c.known_two.ensures.second.has)

pub returns-in-Prod-clause-near : goal.returns-in-Prod-clause-near
returns-in-Prod-clause-near c =
    made_near c.make.new.self c.make.result _ _ c.make.ensures.made
    (prod_near c.args.bank.now c.args.store.now (tree_of c.args.bank.now c.args.term) (text_of c.args.bank.now c.in-Prod.binder) c.in-Prod.kind c.in-Prod.rest c.known_two.result.0 c.known_two.result.1 (rw c.in-Prod.is at c.node.ensures.tree) c.known_two.ensures.first c.known_two.ensures.second)

pub known_two-requires-in-Lam-clause-has_first : goal.known_two-requires-in-Lam-clause-has_first
known_two-requires-in-Lam-clause-has_first c = let parts = rw c.in-Lam.is at c.node.ensures.parts in parts.1.has

pub known_two-requires-in-Lam-clause-first : goal.known_two-requires-in-Lam-clause-first
known_two-requires-in-Lam-clause-first c = (parts_at c.args.bank.now c.args.store.now c.args.known.now.entries c.args.term c.requires (Tree.Lam (text_of c.args.bank.now c.in-Lam.binder) (tree_of c.args.bank.now c.in-Lam.kind) (tree_of c.args.bank.now c.in-Lam.rest)) (rw c.in-Lam.is at c.node.ensures.tree)).0

pub known_two-requires-in-Lam-clause-has_second : goal.known_two-requires-in-Lam-clause-has_second
known_two-requires-in-Lam-clause-has_second c = let parts = rw c.in-Lam.is at c.node.ensures.parts in parts.2.has

pub known_two-requires-in-Lam-clause-second : goal.known_two-requires-in-Lam-clause-second
known_two-requires-in-Lam-clause-second c = (parts_at c.args.bank.now c.args.store.now c.args.known.now.entries c.args.term c.requires (Tree.Lam (text_of c.args.bank.now c.in-Lam.binder) (tree_of c.args.bank.now c.in-Lam.kind) (tree_of c.args.bank.now c.in-Lam.rest)) (rw c.in-Lam.is at c.node.ensures.tree)).1.0

pub make-requires-in-Lam : goal.make-requires-in-Lam
make-requires-in-Lam c = let parts = rw c.in-Lam.is at c.node.ensures.parts in (parts.0, c.known_two-in-Lam.ensures.first.has, c.known_two-in-Lam.ensures.second.has)

pub returns-in-Lam-clause-near : goal.returns-in-Lam-clause-near
returns-in-Lam-clause-near c =
    made_near c.make-in-Lam.new.self c.make-in-Lam.result _ _ c.make-in-Lam.ensures.made
    (lam_near c.args.bank.now c.args.store.now (tree_of c.args.bank.now c.args.term) (text_of c.args.bank.now c.in-Lam.binder) c.in-Lam.kind c.in-Lam.rest c.known_two-in-Lam.result.0 c.known_two-in-Lam.result.1 (rw c.in-Lam.is at c.node.ensures.tree) c.known_two-in-Lam.ensures.first c.known_two-in-Lam.ensures.second)

pub known_two-requires-in-Let-clause-has_first : goal.known_two-requires-in-Let-clause-has_first
known_two-requires-in-Let-clause-has_first c = let parts = rw c.in-Let.is at c.node.ensures.parts in parts.2.has

pub known_two-requires-in-Let-clause-first : goal.known_two-requires-in-Let-clause-first
known_two-requires-in-Let-clause-first c = (parts_at c.args.bank.now c.args.store.now c.args.known.now.entries c.args.term c.requires (Tree.Let (text_of c.args.bank.now c.in-Let.binder) (tree_of c.args.bank.now c.in-Let.value) (tree_of c.args.bank.now c.in-Let.kind) (tree_of c.args.bank.now c.in-Let.rest)) (rw c.in-Let.is at c.node.ensures.tree)).1.0

pub known_two-requires-in-Let-clause-has_second : goal.known_two-requires-in-Let-clause-has_second
known_two-requires-in-Let-clause-has_second c = let parts = rw c.in-Let.is at c.node.ensures.parts in parts.3.has

pub known_two-requires-in-Let-clause-second : goal.known_two-requires-in-Let-clause-second
known_two-requires-in-Let-clause-second c = (parts_at c.args.bank.now c.args.store.now c.args.known.now.entries c.args.term c.requires (Tree.Let (text_of c.args.bank.now c.in-Let.binder) (tree_of c.args.bank.now c.in-Let.value) (tree_of c.args.bank.now c.in-Let.kind) (tree_of c.args.bank.now c.in-Let.rest)) (rw c.in-Let.is at c.node.ensures.tree)).1.1.0

pub known_as-value-requires-clause-has : goal.known_as-value-requires-clause-has
known_as-value-requires-clause-has c = let parts = rw c.in-Let.is at c.node.ensures.parts in parts.1.has

pub known_as-value-requires-clause-known : goal.known_as-value-requires-clause-known
known_as-value-requires-clause-known c = (parts_at c.args.bank.now c.args.store.now c.args.known.now.entries c.args.term c.requires (Tree.Let (text_of c.args.bank.now c.in-Let.binder) (tree_of c.args.bank.now c.in-Let.value) (tree_of c.args.bank.now c.in-Let.kind) (tree_of c.args.bank.now c.in-Let.rest)) (rw c.in-Let.is at c.node.ensures.tree)).0

pub make-requires-in-Let : goal.make-requires-in-Let
make-requires-in-Let c = let parts = rw c.in-Let.is at c.node.ensures.parts in (parts.0, c.known_as-value.ensures.has, c.known_two-in-Let.ensures.first.has, c.known_two-in-Let.ensures.second.has)

pub returns-in-Let-clause-near : goal.returns-in-Let-clause-near
returns-in-Let-clause-near c =
    made_near c.make-in-Let.new.self c.make-in-Let.result _ _ c.make-in-Let.ensures.made
    (let_near c.args.bank.now c.args.store.now (tree_of c.args.bank.now c.args.term) (text_of c.args.bank.now c.in-Let.binder) c.in-Let.value c.in-Let.kind c.in-Let.rest c.known_as-value.result c.known_two-in-Let.result.0 c.known_two-in-Let.result.1 (rw c.in-Let.is at c.node.ensures.tree) c.known_as-value.ensures c.known_two-in-Let.ensures.first c.known_two-in-Let.ensures.second)

pub known_two-requires-in-App-clause-has_first : goal.known_two-requires-in-App-clause-has_first
known_two-requires-in-App-clause-has_first c = let parts = rw c.in-App.is at c.node.ensures.parts in parts.0.has

pub known_two-requires-in-App-clause-first : goal.known_two-requires-in-App-clause-first
known_two-requires-in-App-clause-first c = (parts_at c.args.bank.now c.args.store.now c.args.known.now.entries c.args.term c.requires (Tree.App (tree_of c.args.bank.now c.in-App.function) (tree_of c.args.bank.now c.in-App.argument)) (rw c.in-App.is at c.node.ensures.tree)).0

pub known_two-requires-in-App-clause-has_second : goal.known_two-requires-in-App-clause-has_second
known_two-requires-in-App-clause-has_second c = let parts = rw c.in-App.is at c.node.ensures.parts in parts.1.has

pub known_two-requires-in-App-clause-second : goal.known_two-requires-in-App-clause-second
known_two-requires-in-App-clause-second c = (parts_at c.args.bank.now c.args.store.now c.args.known.now.entries c.args.term c.requires (Tree.App (tree_of c.args.bank.now c.in-App.function) (tree_of c.args.bank.now c.in-App.argument)) (rw c.in-App.is at c.node.ensures.tree)).1.0

pub make-requires-in-App : goal.make-requires-in-App
make-requires-in-App c = (c.known_two-in-App.ensures.first.has, c.known_two-in-App.ensures.second.has)

pub returns-in-App-clause-near : goal.returns-in-App-clause-near
returns-in-App-clause-near c =
    made_near c.make-in-App.new.self c.make-in-App.result _ _ c.make-in-App.ensures.made
    (app_near c.args.bank.now c.args.store.now (tree_of c.args.bank.now c.args.term) c.in-App.function c.in-App.argument c.known_two-in-App.result.0 c.known_two-in-App.result.1 (rw c.in-App.is at c.node.ensures.tree) c.known_two-in-App.ensures.first c.known_two-in-App.ensures.second)

pub each_known-requires-clause-known : goal.each_known-requires-clause-known
each_known-requires-clause-known c =
    along (λ ts. AllIn (map (tree_of c.args.bank.now) ts) (trees_known c.args.bank.now c.args.known.now.entries)) (sym c.terms.ensures)
    (entries_known c.args.bank.now c.args.store.now c.args.known.now.entries c.args.term c.requires c.in-Evar.variable c.in-Evar.parts (rw c.in-Evar.is at c.node.ensures.tree))

pub returns-in-Rel-clause-near : goal.returns-in-Rel-clause-near
returns-in-Rel-clause-near c = leaf_near c.args.bank.now c.args.store.now c.args.term _ (rw c.in-Rel.is at c.node.ensures.tree) refl

pub returns-in-Var-clause-near : goal.returns-in-Var-clause-near
returns-in-Var-clause-near c = leaf_near c.args.bank.now c.args.store.now c.args.term _ (rw c.in-Var.is at c.node.ensures.tree) refl

pub returns-in-Sort-clause-near : goal.returns-in-Sort-clause-near
returns-in-Sort-clause-near c = leaf_near c.args.bank.now c.args.store.now c.args.term _ (rw c.in-Sort.is at c.node.ensures.tree) refl

pub returns-in-Const-clause-near : goal.returns-in-Const-clause-near
returns-in-Const-clause-near c = leaf_near c.args.bank.now c.args.store.now c.args.term _ (rw c.in-Const.is at c.node.ensures.tree) refl

pub returns-in-Ind-clause-near : goal.returns-in-Ind-clause-near
returns-in-Ind-clause-near c = leaf_near c.args.bank.now c.args.store.now c.args.term _ (rw c.in-Ind.is at c.node.ensures.tree) refl

pub returns-in-Ctor-clause-near : goal.returns-in-Ctor-clause-near
returns-in-Ctor-clause-near c = leaf_near c.args.bank.now c.args.store.now c.args.term _ (rw c.in-Ctor.is at c.node.ensures.tree) refl

pub returns-in-Elim-clause-near : goal.returns-in-Elim-clause-near
returns-in-Elim-clause-near c = leaf_near c.args.bank.now c.args.store.now c.args.term _ (rw c.in-Elim.is at c.node.ensures.tree) refl
