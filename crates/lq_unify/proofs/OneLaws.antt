-- Whether two terms are one variable.
use Rattle.std.proofs.Common.{◌≡◌, ◌∙◌, ℕ, refl, sym, ap, ap₂, arith, true, false, eqb, List, map, Option, None}
use Rattle.lq_trees.specs.Tree.{Tree, Context}
use Rattle.lq_trees.specs.Tree.Tree.{Rel, Var, Sort, Prod, Lam, Let, App, Const, Ind, Ctor, Elim, Evar}
use Rattle.lq_terms.specs.declared.nodes.TermId.{TermId}
use Rattle.lq_terms.specs.Terms.{Terms, tree_of, trees_by}
use Rattle.lq_solving.specs.Unification.{Sides, is_variable, one_variable, parts_of}
use Rattle.lq_unify.proofs.PartLaws.{entries_map}

pub one_left : (g : Context) (t u : Tree) → false ≡ is_variable t → one_variable g t u ≡ None
unfolding one_variable is_variable
one_left g (Rel i) u e = refl
one_left g (Var x) u e = refl
one_left g (Sort s) u e = refl
one_left g (Prod x A B) u e = refl
one_left g (Lam x A B) u e = refl
one_left g (Let x v A B) u e = refl
one_left g (App f a) u e = refl
one_left g (Const c) u e = refl
one_left g (Ind c) u e = refl
one_left g (Ctor c k) u e = refl
one_left g (Elim c s) u e = refl
one_left g (Evar k ts) u e = absurd (grind arith)

pub one_right : (g : Context) (t u : Tree) → false ≡ is_variable u → one_variable g t u ≡ None
unfolding one_variable is_variable
one_right g (Evar k es) (Evar l fs) e = absurd (grind arith)
one_right g t u e = refl

module _ (bank : Terms) (g : Context) (T U : Tree) (k l : ℕ) (ts us : List TermId) (e : T ≡ Evar k (trees_by (tree_of bank) ts)) (f : U ≡ Evar l (trees_by (tree_of bank) us)) where
  one_by : one_variable g T U ≡ elim (eqb k l) [ true ↦ parts_of g (map (tree_of bank) ts) (map (tree_of bank) us) | false ↦ None ]
  unfolding one_variable
  one_by =
      ap₂ (one_variable g) e f
      ∙ ap₂ (λ a b. elim (eqb k l) as (λ z. Option (List Sides)) [ true ↦ parts_of g a b | false ↦ None ]) (entries_map bank ts) (entries_map bank us)

  pub not_one : (k ≡ l → ⊥) → one_variable g T U ≡ None
  not_one h = one_by ∙ ap (λ z. elim z as (λ w. Option (List Sides)) [ true ↦ parts_of g (map (tree_of bank) ts) (map (tree_of bank) us) | false ↦ None ]) (differ k l h)
    where
      differ : (m n : ℕ) → (m ≡ n → ⊥) → eqb m n ≡ false
      differ m n d = grind (arith, d)

  pub is_one : k ≡ l → parts_of g (map (tree_of bank) ts) (map (tree_of bank) us) ≡ one_variable g T U
  is_one h = sym (one_by ∙ ap (λ z. elim z as (λ w. Option (List Sides)) [ true ↦ parts_of g (map (tree_of bank) ts) (map (tree_of bank) us) | false ↦ None ]) (same k l h))
    where
      same : (m n : ℕ) → m ≡ n → eqb m n ≡ true
      same m n d = grind (arith, d)
