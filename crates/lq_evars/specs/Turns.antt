-- How many turns it takes to read a term part by part, so that reading ends.
use Rattle.std.specs.Prelude.{ℕ, ◌+◌, eqb, List, [], ◌∷◌, Option, Some, None, if◌then◌else◌}
use Rattle.lq_trees.specs.Tree.{Tree, Trees, none, more}
use Rattle.lq_trees.specs.Tree.Tree.{Rel, Var, Sort, Prod, Lam, Let, App, Const, Ind, Ctor, Elim, Evar}
use Rattle.lq_trees.specs.Reading.{entries}
use Rattle.lq_solving.specs.Stores.{Assigned, find_value}

-- one for each node, and so many more for a variable
abbrev mutual
  pub turns : (ℕ → ℕ) → Tree → ℕ
  turns w (Rel i) = 1
  turns w (Var x) = 1
  turns w (Sort s) = 1
  turns w (Prod x A B) = 1 + turns w A + turns w B
  turns w (Lam x A t) = 1 + turns w A + turns w t
  turns w (Let x v A t) = 1 + turns w v + turns w A + turns w t
  turns w (App f a) = 1 + turns w f + turns w a
  turns w (Const c) = 1
  turns w (Ind c) = 1
  turns w (Ctor c k) = 1
  turns w (Elim c s) = 1
  turns w (Evar n ts) = 1 + w n + turns_each w ts

  pub turns_each : (ℕ → ℕ) → Trees → ℕ
  turns_each w none = 0
  turns_each w (more t ts) = turns w t + turns_each w ts

-- so many for variable k
abbrev pub with_turns : (ℕ → ℕ) → (k many : ℕ) → ℕ → ℕ
with_turns w k m n = if eqb k n then m else w n

-- a variable with a value takes one more than its value
abbrev pub turns_of : (ℕ → ℕ) → List Assigned → ℕ → ℕ
turns_of w [] n = w n
turns_of w (a ∷ older) n = turns_of (with_turns w a.id (1 + turns (turns_of w older) a.body)) older n

-- how many turns a term takes
abbrev pub rank : List Assigned → Tree → ℕ
rank as_ t = turns (turns_of (λ n. 0) as_) t

abbrev pub ranks : List Assigned → List Tree → ℕ
ranks as_ [] = 0
ranks as_ (t ∷ ts) = rank as_ t + ranks as_ ts

-- a value goes ahead of the entries
abbrev pub with_value : Option Tree → List Tree → List Tree
with_value None ts = ts
with_value (Some b) ts = b ∷ ts

-- the terms that are read before a term is
abbrev pub parts_of : List Assigned → Tree → List Tree
parts_of as_ (Rel i) = []
parts_of as_ (Var x) = []
parts_of as_ (Sort s) = []
parts_of as_ (Prod x A B) = A ∷ B ∷ []
parts_of as_ (Lam x A t) = A ∷ t ∷ []
parts_of as_ (Let x v A t) = v ∷ A ∷ t ∷ []
parts_of as_ (App f a) = f ∷ a ∷ []
parts_of as_ (Const c) = []
parts_of as_ (Ind c) = []
parts_of as_ (Ctor c k) = []
parts_of as_ (Elim c s) = []
parts_of as_ (Evar n ts) = with_value (find_value as_ n) (entries ts)
