-- Whether a term holds a variable, or one of certain hypotheses.
use Rattle.std.specs.Prelude.{ℕ, Bool, true, false, ◌||◌, eqb, List, [], ◌∷◌, Option, Some, None}
use Rattle.lq_trees.specs.Tree.{Name, Tree, Trees, none, more}
use Rattle.lq_trees.specs.Tree.Tree.{Rel, Var, Sort, Prod, Lam, Let, App, Const, Ind, Ctor, Elim, Evar}

-- whether a term holds variable k, or a hypothesis that is marked
unfoldable mutual
  pub holds_any : ℕ → (Name → Bool) → Tree → Bool
  holds_any k marked (Rel i) = false
  holds_any k marked (Var x) = marked x
  holds_any k marked (Sort s) = false
  holds_any k marked (Prod x A B) = holds_any k marked A || holds_any k marked B
  holds_any k marked (Lam x A t) = holds_any k marked A || holds_any k marked t
  holds_any k marked (Let x v A t) = holds_any k marked v || holds_any k marked A || holds_any k marked t
  holds_any k marked (App f a) = holds_any k marked f || holds_any k marked a
  holds_any k marked (Const c) = false
  holds_any k marked (Ind c) = false
  holds_any k marked (Ctor c i) = false
  holds_any k marked (Elim c s) = false
  holds_any k marked (Evar n ts) = eqb k n || hold_any k marked ts

  pub hold_any : ℕ → (Name → Bool) → Trees → Bool
  hold_any k marked none = false
  hold_any k marked (more t ts) = holds_any k marked t || hold_any k marked ts

-- the same of one of several terms
unfoldable pub one_holds : ℕ → (Name → Bool) → List Tree → Bool
one_holds k marked [] = false
one_holds k marked (t ∷ ts) = holds_any k marked t || one_holds k marked ts

-- the same of a term without its parts
unfoldable pub holds_itself : ℕ → (Name → Bool) → Tree → Bool
holds_itself k marked (Var x) = marked x
holds_itself k marked (Evar n ts) = eqb k n
holds_itself k marked t = false

-- the same of what stands for a hypothesis: a term, or else the hypothesis
unfoldable pub stands_marked : ℕ → (Name → Bool) → Name → Option Tree → Bool
stands_marked k marked x None = marked x
stands_marked k marked x (Some t) = holds_any k marked t

-- whether nothing is there
unfoldable pub is_absent : {A : Type 0} → Option A → Bool
is_absent None = true
is_absent (Some a) = false
