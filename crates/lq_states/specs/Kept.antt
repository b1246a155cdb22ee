-- What is true of a proof's lists.
use Rattle.std.specs.Prelude.{◌≡◌, ◌≤◌, ◌<◌, ◌+◌, ◌-◌, ℕ, true, false, eqb, List, [], ◌∷◌, ◌++◌, length, drop, None}
use Rattle.lq_solving.specs.Stores.{Assigned, is_open, count, find_value}
use Rattle.lq_states.specs.Goals.{Frame, Proof}

-- how often a number stands in a list
unfoldable pub times : List ℕ → ℕ → ℕ
times [] k = 0
times (j ∷ js) k = elim (eqb j k) [ true ↦ 1 + times js k | false ↦ times js k ]

unfoldable pub behind_all : List Frame → List ℕ
behind_all [] = []
behind_all (f ∷ fs) = f.behind ++ behind_all fs

-- the lists of a proof, one behind the other
unfoldable pub listed_goals : Proof → List ℕ
listed_goals p = p.focus ++ behind_all p.frames ++ p.shelf

-- the root and the variables in the lists are in the store, and none stands twice: so it stays whatever values are given
pub record IsListed (p : Proof) : Type 0 where
  pub rooted : 1 ≤ count p.store
  pub once : (k : ℕ) → times (listed_goals p) k ≤ 1
  pub inside : (k : ℕ) → 1 ≤ times (listed_goals p) k → k < count p.store

-- no number stands twice in a list
abbrev pub AreDistinct : List ℕ → Type 0
AreDistinct ks = (k : ℕ) → times ks k ≤ 1

-- What may take the place of goals that are in focus or on the shelf: variables without a value, none of them twice, which stand
-- in no list but among the taken; where none is taken, none is left.
pub record MayReplace (p : Proof) (taken left shelved : List ℕ) : Type 0 where
  pub there : (k : ℕ) → 1 ≤ times taken k → 1 ≤ times p.focus k + times p.shelf k
  pub once : (k : ℕ) → times left k + times shelved k ≤ 1
  pub valueless : (k : ℕ) → 1 ≤ times left k + times shelved k → is_open p.store k ≡ true
  pub apart : (k : ℕ) → 1 ≤ times left k + times shelved k → 1 ≤ times (listed_goals p) k → 1 ≤ times taken k
  pub none : taken ≡ [] → left ≡ []

-- the root is there, no variable stands twice in the lists, and each of them is one of the store without a value
pub record IsProof (p : Proof) : Type 0 where
  pub rooted : 1 ≤ count p.store
  pub once : (k : ℕ) → times (listed_goals p) k ≤ 1
  pub valueless : (k : ℕ) → 1 ≤ times (listed_goals p) k → is_open p.store k ≡ true

-- the oldest of some values, of which the newest stands first
abbrev pub oldest : ℕ → List Assigned → List Assigned
oldest n as_ = drop (length as_ - n) as_

-- when so many values were given to so many variables, each of the lists' goals was one of these variables and had no value
pub record IsSwept (p : Proof) (given seen : ℕ) : Type 0 where
  pub values : given ≤ length p.store.values
  pub inside : (k : ℕ) → 1 ≤ times (listed_goals p) k → k < seen
  pub valueless : (k : ℕ) → 1 ≤ times (listed_goals p) k → find_value (oldest given p.store.values) k ≡ None
