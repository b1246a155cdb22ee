-- Heads of terms: whether the head variable has a value, and how often values may be put in for heads.
use Rattle.std.specs.Prelude.{◌≡◌, ◌+◌, ℕ, max, eqb, List, [], ◌∷◌, None, if◌then◌else◌}
use Rattle.lq_trees.specs.Tree.{Tree, Trees, none, more}
use Rattle.lq_trees.specs.Tree.Tree.{Rel, Var, Sort, Prod, Lam, Let, App, Const, Ind, Ctor, Elim, Evar}
use Rattle.lq_solving.specs.Stores.{Assigned, find_value}

-- the head of a term is no variable that has a value
abbrev pub HasOpenHead : List Assigned → Tree → Type 0
HasOpenHead as_ (Rel i) = Unit {0}
HasOpenHead as_ (Var x) = Unit {0}
HasOpenHead as_ (Sort s) = Unit {0}
HasOpenHead as_ (Prod x A B) = Unit {0}
HasOpenHead as_ (Lam x A t) = Unit {0}
HasOpenHead as_ (Let x v A t) = Unit {0}
HasOpenHead as_ (App f a) = HasOpenHead as_ f
HasOpenHead as_ (Const c) = Unit {0}
HasOpenHead as_ (Ind c) = Unit {0}
HasOpenHead as_ (Ctor c k) = Unit {0}
HasOpenHead as_ (Elim c s) = Unit {0}
HasOpenHead as_ (Evar n ts) = find_value as_ n ≡ None

-- a tree is no application
abbrev pub IsHead : Tree → Type 0
IsHead (App f a) = ⊥
IsHead t = Unit {0}

-- how often values may be put in for the head, `w` being how often for each variable
abbrev mutual
  pub tops : (ℕ → ℕ) → Tree → ℕ
  tops w (Rel i) = 0
  tops w (Var x) = 0
  tops w (Sort s) = 0
  tops w (Prod x A B) = 0
  tops w (Lam x A t) = 0
  tops w (Let x v A t) = 0
  tops w (App f a) = tops w f
  tops w (Const c) = 0
  tops w (Ind c) = 0
  tops w (Ctor c k) = 0
  tops w (Elim c s) = 0
  tops w (Evar n ts) = w n + most_tops w ts

  -- the most of several terms
  pub most_tops : (ℕ → ℕ) → Trees → ℕ
  most_tops w none = 0
  most_tops w (more t ts) = max (tops w t) (most_tops w ts)

-- so many for variable k
abbrev pub with_tops : (ℕ → ℕ) → (k many : ℕ) → ℕ → ℕ
with_tops w k m n = if eqb k n then m else w n

-- one more for a variable with a value than for its value
abbrev pub tops_of : (ℕ → ℕ) → List Assigned → ℕ → ℕ
tops_of w [] n = w n
tops_of w (a ∷ older) n = tops_of (with_tops w a.id (1 + tops (tops_of w older) a.body)) older n

-- how often values may be put in for the head of a term
abbrev pub head_rank : List Assigned → Tree → ℕ
head_rank as_ t = tops (tops_of (λ n. 0) as_) t
