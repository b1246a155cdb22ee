-- How many steps it takes at most to go through a term as it reads, so that comparing ends.
use Rattle.std.specs.Prelude.{ℕ, ◌+◌, eqb, List, [], ◌∷◌, if◌then◌else◌}
use Rattle.lq_trees.specs.Tree.{Tree, Trees, none, more}
use Rattle.lq_trees.specs.Tree.Tree.{Rel, Var, Sort, Prod, Lam, Let, App, Const, Ind, Ctor, Elim, Evar}
use Rattle.lq_solving.specs.Stores.{Assigned}
use Rattle.lq_evars.specs.Scopes.{Scope, top, below, inside}

-- one for each node, so many more for a hypothesis, and for a variable what its value takes by what its entries take
abbrev mutual
  pub steps : (ℕ → ℕ → ℕ) → ℕ → Tree → ℕ
  steps w v (Rel i) = 1
  steps w v (Var x) = 1 + v
  steps w v (Sort s) = 1
  steps w v (Prod x A B) = 1 + steps w v A + steps w v B
  steps w v (Lam x A t) = 1 + steps w v A + steps w v t
  steps w v (Let x u A t) = 1 + steps w v u + steps w v A + steps w v t
  steps w v (App f a) = 1 + steps w v f + steps w v a
  steps w v (Const c) = 1
  steps w v (Ind c) = 1
  steps w v (Ctor c k) = 1
  steps w v (Elim c s) = 1
  steps w v (Evar n ts) = 1 + w n (steps_each w v ts)

  pub steps_each : (ℕ → ℕ → ℕ) → ℕ → Trees → ℕ
  steps_each w v none = 0
  steps_each w v (more t ts) = steps w v t + steps_each w v ts

-- so many for variable k
abbrev pub with_steps : (ℕ → ℕ → ℕ) → (k : ℕ) → (ℕ → ℕ) → ℕ → ℕ → ℕ
with_steps w k f n v = if eqb k n then f v else w n v

-- a variable with a value takes what the value takes
abbrev pub steps_of : (ℕ → ℕ → ℕ) → List Assigned → ℕ → ℕ → ℕ
steps_of w [] n v = w n v
steps_of w (a ∷ older) n v = steps_of (with_steps w a.id (λ m. steps (steps_of w older) m a.body)) older n v

-- a variable takes what its entries take, where it has no value
abbrev pub value_steps : List Assigned → ℕ → ℕ → ℕ
value_steps as_ = steps_of (λ n v. v) as_

-- what a hypothesis takes in a scope
abbrev pub scope_steps : List Assigned → Scope → ℕ
scope_steps as_ top = 0
scope_steps as_ (below c e o) = scope_steps as_ o
scope_steps as_ (inside n ts o) = steps_each (value_steps as_) (scope_steps as_ o) ts

-- a term in a scope
abbrev pub term_steps : List Assigned → Scope → Tree → ℕ
term_steps as_ o t = steps (value_steps as_) (scope_steps as_ o) t
