-- A proof by places of a bank, and the proof over trees that it stands for.
use Rattle.std.specs.Prelude.{◌≡◌, ◌≤◌, ◌<◌, ℕ, Bool, true, false, eqb, List, [], ◌∷◌, length, Result, Ok, Err, Option, Some, None}
use Rattle.lq_terms.specs.declared.nodes.TermId.{TermId}
use Rattle.lq_terms.specs.Terms.{Terms}
use Rattle.lq_evars.specs.Places.{Places, store_of, value_at}
use Rattle.lq_states.specs.Goals.{Proof, GoalFault as TreeFault, has, nothing_focused, too_many_goals}
use Rattle.lq_goals.specs.declared.proof.GoalFault.{GoalFault}

-- a store, the goals in focus and on the shelf, and how many values and variables there were when goals with a value last left the lists
pub record Held : Type 0 where
  pub store : Places
  pub focus : List ℕ
  pub shelf : List ℕ
  pub given : ℕ
  pub seen : ℕ

-- the proof over trees
abbrev pub proof_of : Terms → Held → Proof
proof_of bank p = record { store = store_of bank p.store; focus = p.focus; frames = []; shelf = p.shelf }

-- the same lists over another store
abbrev pub with_places : Held → Places → Held
with_places p s = record { store = s; focus = p.focus; shelf = p.shelf; given = p.given; seen = p.seen }

-- the goals of a list that have no value
abbrev pub open_one : Option TermId → ℕ → List ℕ → List ℕ
open_one None j js = j ∷ js
open_one (Some t) j js = js

abbrev pub open_in : Places → List ℕ → List ℕ
open_in s [] = []
open_in s (j ∷ js) = open_one (value_at s j) j (open_in s js)

-- The answer of a change of the lists is the definition's, and the proof then is. Memory may end at any time.
abbrev pub Changes : Terms → Result (Unit {0}) GoalFault → Held → Result Proof TreeFault → Type 0
Changes bank (Ok u) new r = r ≡ Ok (proof_of bank new)
Changes bank (Err GoalFault.NothingFocused) new r = r ≡ Err nothing_focused
Changes bank (Err GoalFault.TooManyGoals) new r = r ≡ Err too_many_goals
Changes bank (Err GoalFault.NoMemory) new r = Unit {0}

-- other lists, from which goals with a value have left by now
abbrev pub with_goals : Held → List ℕ → List ℕ → Held
with_goals p focus shelf = record { store = p.store; focus = focus; shelf = shelf; given = length p.store.values; seen = length p.store.variables }

-- The proof gets these lists, unless there are too many goals in focus. Memory may end at any time; after a refusal the proof is as before.
abbrev pub Exchanges : Result (Unit {0}) GoalFault → Held → Held → List ℕ → List ℕ → Type 0
Exchanges (Ok u) old new focus shelf = (length focus ≤ 10000) × (new ≡ with_goals old focus shelf)
Exchanges (Err GoalFault.NothingFocused) old new focus shelf = ⊥
Exchanges (Err GoalFault.TooManyGoals) old new focus shelf = (10000 < length focus) × (new ≡ old)
Exchanges (Err GoalFault.NoMemory) old new focus shelf = new ≡ old

-- whether there is no value
abbrev pub is_missing : Option TermId → Bool
is_missing None = true
is_missing (Some t) = false

-- what comes for a goal where others take the place of the first taken one: those, nothing for another taken one, else itself
abbrev pub stands_for : (first : ℕ) → (taken left : List ℕ) → ℕ → List ℕ
stands_for first taken left j = elim (eqb j first) [ true ↦ left | false ↦ elim (has taken j) [ true ↦ [] | false ↦ j ∷ [] ] ]

-- a value is one of a variable that is newer or a taken goal
abbrev pub IsQuiet : (seen : ℕ) → (taken : List ℕ) → Option (ℕ × TermId) → Type 0
IsQuiet seen taken None = Unit {0}
IsQuiet seen taken (Some a) = a.0 < seen → has taken a.0 ≡ true

-- each value of the list is one of a variable that is newer or a taken goal
abbrev pub AreQuiet : (seen : ℕ) → (taken : List ℕ) → List (ℕ × TermId) → Type 0
AreQuiet seen taken [] = Unit {0}
AreQuiet seen taken (a ∷ as_) = (a.0 < seen → has taken a.0 ≡ true) × AreQuiet seen taken as_

-- no goal is taken, or one that is in focus
abbrev pub IsPlain : List ℕ → List ℕ → Type 0
IsPlain focus [] = Unit {0}
IsPlain focus (k ∷ []) = has focus k ≡ true
IsPlain focus (k ∷ j ∷ ks) = ⊥
