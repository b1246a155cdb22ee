-- The parts of two binders.
use Rattle.std.proofs.Common.{◌≡◌, ◌∙◌, refl, sym, ap, ap₂, arith, List, [], ◌∷◌, ◌++◌, Some, None}
use Rattle.std.proofs.Common.{subst as along}
use Rattle.std.specs.List.{AllByRecursion}
use Rattle.lq_trees.specs.Tree.{Name, Tree, Context, Hypothesis as TreeHypothesis}
use Rattle.lq_trees.specs.Fresh.{under, under_let}
use Rattle.lq_terms.specs.Terms.{Terms, Grows, tree_of}
use Rattle.lq_solving.specs.Unification.{sides}
use Rattle.lq_unify.specs.declared.pairs.Pair.{Pair}
use Rattle.lq_unify.specs.declared.pairs.Under.{Under}
use Rattle.lq_unify.specs.Pairs.{pairs_in, HasPair, IsUnder}
use Rattle.lq_unify.specs.Forms.{under_in, HasUnder}

module _ (old new : Terms) (g : Grows old new) where
  pair_grown : (p : Pair) → HasPair old p → HasPair new p
  pair_grown p h = (omega (arith, h.0, g.nodes), omega (arith, h.1, g.nodes))

  pub pairs_grown : (ps : List Pair) → AllByRecursion (HasPair old) ps → AllByRecursion (HasPair new) ps
  pairs_grown [] h = tt
  pairs_grown (p ∷ ps) h = (pair_grown p h.0, pairs_grown ps h.1)

  pub sides_grown : (c : Context) (ps : List Pair) → AllByRecursion (HasPair old) ps → pairs_in new c ps ≡ pairs_in old c ps
  sides_grown c [] h = refl
  sides_grown c (p ∷ ps) h = ap₂ (λ x xs. x ∷ xs) (ap₂ (λ t u. sides c t u) (g.tree p.left h.0.0) (g.tree p.right h.0.1)) (sides_grown c ps h.1)

pub under_has : (bank : Terms) (u : Under) (v : TreeHypothesis) (B D : Tree) → IsUnder bank u v B D → HasUnder bank (Some u)
under_has bank u v B D h = (h.has, (h.left.has, h.right.has))

pub under_sides : (bank : Terms) (c : Context) (u : Under) (v : TreeHypothesis) (B D : Tree) → IsUnder bank u v B D → under_in bank c (Some u) ≡ sides (c ++ (v ∷ [])) B D ∷ []
under_sides bank c u v B D h =
    ap (λ w. sides (c ++ (w ∷ [])) (tree_of bank u.pair.left) (tree_of bank u.pair.right) ∷ []) h.is ∙ ap₂ (λ t w. sides (c ++ (v ∷ [])) t w ∷ []) h.left.is h.right.is

-- pairs of an older bank, and what is under a binder
pub form_is : (old new : Terms) → Grows old new → (c : Context) (ps qs : List Pair) (u : Under) (v : TreeHypothesis) (B D : Tree) → ps ≡ qs → AllByRecursion (HasPair old) qs → IsUnder new u v B D →
    pairs_in new c ps ++ under_in new c (Some u) ≡ pairs_in old c qs ++ (sides (c ++ (v ∷ [])) B D ∷ [])
form_is old new g c ps qs u v B D e h k = ap₂ (λ x y. x ++ y) (ap (pairs_in new c) e ∙ sides_grown old new g c qs h) (under_sides new c u v B D k)

pub pairs_there : (old new : Terms) → Grows old new → (ps qs : List Pair) → ps ≡ qs → AllByRecursion (HasPair old) qs → AllByRecursion (HasPair new) ps
pairs_there old new g ps qs e h = along (AllByRecursion (HasPair new)) (sym e) (pairs_grown old new g qs h)

-- the contexts under binders
pub under_is_behind : (c : Context) (y : Name) (A : Tree) → c ++ (record { name = y; body = None; kind = A } ∷ []) ≡ under c y A
unfolding under
under_is_behind c y A = refl

pub let_is_behind : (c : Context) (y : Name) (v A : Tree) → c ++ (record { name = y; body = Some v; kind = A } ∷ []) ≡ under_let c y v A
unfolding under_let
let_is_behind c y v A = refl

-- the parts of two binders, and of two local definitions
pub binder_are : (old new : Terms) → Grows old new → (c : Context) (ps : List Pair) (k : Pair) (u : Under) (y : Name) (A B D : Tree) → ps ≡ k ∷ [] → HasPair old k → IsUnder new u (record { name = y; body = None; kind = A }) B D →
    pairs_in new c ps ++ under_in new c (Some u) ≡ sides c (tree_of old k.left) (tree_of old k.right) ∷ sides (under c y A) B D ∷ []
binder_are old new g c ps k u y A B D e h i =
    form_is old new g c ps (k ∷ []) u (record { name = y; body = None; kind = A }) B D e (h, tt) i
    ∙ ap (λ z. sides c (tree_of old k.left) (tree_of old k.right) ∷ sides z B D ∷ []) (under_is_behind c y A)

pub definition_are : (old new : Terms) → Grows old new → (c : Context) (ps : List Pair) (v k : Pair) (u : Under) (y : Name) (V A B D : Tree) → ps ≡ v ∷ k ∷ [] → HasPair old v → HasPair old k →
    IsUnder new u (record { name = y; body = Some V; kind = A }) B D →
    pairs_in new c ps ++ under_in new c (Some u) ≡ sides c (tree_of old v.left) (tree_of old v.right) ∷ sides c (tree_of old k.left) (tree_of old k.right) ∷ sides (under_let c y V A) B D ∷ []
definition_are old new g c ps v k u y V A B D e h j i =
    form_is old new g c ps (v ∷ k ∷ []) u (record { name = y; body = Some V; kind = A }) B D e (h, (j, tt)) i
    ∙ ap (λ z. sides c (tree_of old v.left) (tree_of old v.right) ∷ sides c (tree_of old k.left) (tree_of old k.right) ∷ sides z B D ∷ []) (let_is_behind c y V A)
