-- Closed terms put in for hypotheses.
use Rattle.std.proofs.Common.{◌≡◌, ◌+◌, ◌∙◌, ℕ, true, refl, sym, ap, ap₂, arith, List, Option, Some, None}
use Rattle.lq_trees.specs.Tree.{Name, Tree, Trees, none, more, value_of}
use Rattle.lq_trees.specs.Tree.Tree.{Rel, Var, Sort, Prod, Lam, Let, App, Const, Ind, Ctor, Elim, Evar}
use Rattle.lq_trees.specs.Change.{put, standing}
use Rattle.lq_trees.specs.Index.{Within}
use Rattle.lq_solving.proofs.LiftLaws.{put_each}
use Rattle.lq_solving.proofs.EqualUnder.{lift_closed}
use Rattle.lq_solving.specs.Unification.{two, three}
use Rattle.lq_unify.specs.Solutions.{is_barred, solution, solution_each, or_itself}

-- terms without loose bound variables
abbrev pub AllClosed : List (Name × Tree) → Type 0
AllClosed ps = (x : Name) (v : Tree) → value_of ps x ≡ Some v → Within 0 v

-- what a list gives for a hypothesis, or the hypothesis itself
abbrev pub given_or : List (Name × Tree) → Name → Option Tree
given_or ps x = or_itself true x (value_of ps x)

pub given_stands : (d : ℕ) (x : Name) (o : Option Tree) → ((v : Tree) → o ≡ Some v → Within 0 v) → or_itself true x o ≡ Some (standing o d x)
unfolding or_itself
given_stands d x None h = refl
given_stands d x (Some v) h = ap Some (sym (lift_closed d 0 0 (omega arith) v (h v refl)))

-- closed terms put in at any depth are the solution that keeps other hypotheses
mutual
  unfolding solution is_barred two three

  pub put_solution : (ps : List (Name × Tree)) → AllClosed ps → (d : ℕ) (t : Tree) → solution None (given_or ps) t ≡ Some (put ps d t)
  put_solution ps h d (Rel i) = refl
  put_solution ps h d (Var x) = given_stands d x (value_of ps x) (h x)
  put_solution ps h d (Sort s) = refl
  put_solution ps h d (Prod x A B) = ap₂ (λ o p. two o p (Prod x)) (put_solution ps h d A) (put_solution ps h (d + 1) B)
  put_solution ps h d (Lam x A t) = ap₂ (λ o p. two o p (Lam x)) (put_solution ps h d A) (put_solution ps h (d + 1) t)
  put_solution ps h d (Let x v A t) =
      ap (λ o. three o (solution None (given_or ps) A) (solution None (given_or ps) t) (Let x)) (put_solution ps h d v)
      ∙ ap₂ (λ o p. three (Some (put ps d v)) o p (Let x)) (put_solution ps h d A) (put_solution ps h (d + 1) t)
  put_solution ps h d (App f a) = ap₂ (λ o p. two o p App) (put_solution ps h d f) (put_solution ps h d a)
  put_solution ps h d (Const c) = refl
  put_solution ps h d (Ind c) = refl
  put_solution ps h d (Ctor c k) = refl
  put_solution ps h d (Elim c s) = refl
  put_solution ps h d (Evar n ts) = ap (λ o. elim o [ None ↦ None | Some us ↦ Some (Evar n us) ]) (each_put_solution ps h d ts)

  pub each_put_solution : (ps : List (Name × Tree)) → AllClosed ps → (d : ℕ) (ts : Trees) → solution_each None (given_or ps) ts ≡ Some (put_each ps d ts)
  each_put_solution ps h d none = refl
  each_put_solution ps h d (more t ts) = ap₂ (λ o p. two o p more) (put_solution ps h d t) (each_put_solution ps h d ts)
