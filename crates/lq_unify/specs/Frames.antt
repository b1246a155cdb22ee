-- What waits for an answer, and what it stands for.
use Rattle.std.specs.Prelude.{◌≤◌, ◌+◌, ℕ, Bool, true, false, List, [], ◌∷◌, ◌++◌, length, take, drop, Some, None}
use Rattle.std.specs.List.{AllByRecursion}
use Rattle.lq_trees.specs.Tree.{Context}
use Rattle.lq_terms.specs.declared.nodes.Hypothesis.{Hypothesis}
use Rattle.lq_terms.specs.Terms.{Terms, tree_of}
use Rattle.lq_terms.specs.Contexts.{HasContext, context_of}
use Rattle.lq_solving.specs.Stores.{Store}
use Rattle.lq_solving.specs.Kept.{IsStore}
use Rattle.lq_solving.specs.Unification.{Answer, Sides, sides}
use Rattle.lq_solving.specs.Waiting.{Waiting, parts, reducing}
use Rattle.lq_solving.proofs.Later.{Later}
use Rattle.lq_evars.specs.Places.{Places, store_of, HasStore, GivesMore}
use Rattle.lq_unify.specs.declared.pairs.Pair.{Pair}
use Rattle.lq_unify.specs.declared.frames.Parts.{Parts}
use Rattle.lq_unify.specs.declared.frames.Frame.{Frame}
use Rattle.lq_unify.specs.Pairs.{pairs_in, HasPair}
use Rattle.lq_unify.specs.Forms.{under_in, HasForm}
use Rattle.lq_unify.specs.Standing.{SidesStand, AllStand}

-- the store when it had so many values
abbrev pub with_values : ℕ → Places → Places
with_values n s = record { variables = s.variables; values = take n s.values }

-- two terms in a context
abbrev pub sides_in : Terms → List Hypothesis → Pair → Sides
sides_in bank hs p = sides (context_of bank hs) (tree_of bank p.left) (tree_of bank p.right)

-- the parts that are still to be unified, in their context
abbrev pub parts_in : Terms → Context → Parts → List Sides
parts_in bank g p = pairs_in bank g (drop p.next p.form.pairs.items) ++ under_in bank g p.form.under

-- what waits, by the hypotheses that the nearest one has at least, and by a store that has its values at least
abbrev pub waits : Terms → Places → List Hypothesis → List Frame → List Waiting
waits bank s hs [] = []
waits bank s hs (Frame.Parts p ∷ fs) = parts (parts_in bank (context_of bank (take p.mark hs)) p) ∷ waits bank s (take p.mark hs) fs
waits bank s hs (Frame.Reducing r ∷ fs) =
    reducing (context_of bank (take r.mark hs)) (store_of bank (with_values r.given s)) (tree_of bank r.pair.left) (tree_of bank r.pair.right)
    ∷ waits bank (with_values r.given s) (take r.mark hs) fs

-- each has no more hypotheses, and no more values, than what is nearer
abbrev pub AreNested : (values hypotheses : ℕ) → List Frame → Type 0
AreNested v m [] = Unit {0}
AreNested v m (Frame.Parts p ∷ fs) = (p.mark ≤ m) × AreNested v p.mark fs
AreNested v m (Frame.Reducing r ∷ fs) = (r.mark ≤ m) × (r.given ≤ v) × AreNested r.given r.mark fs

-- the bank has what waits
abbrev pub HasFrame : Terms → Frame → Type 0
HasFrame bank (Frame.Parts p) = HasForm bank p.form
HasFrame bank (Frame.Reducing r) = HasPair bank r.pair

-- what waits stands in its store and its contexts
abbrev pub WaitingStand : Store → List Waiting → Type 0
WaitingStand s [] = Unit {0}
WaitingStand s (parts ps ∷ ws) = AllStand s ps × WaitingStand s ws
WaitingStand s (reducing g s0 t u ∷ ws) = IsStore s0 × Later s0 s × SidesStand s0 (sides g t u) × WaitingStand s0 ws

-- what is true of a store, of hypotheses and of what waits
pub record IsWork (bank : Terms) (s : Places) (hs : List Hypothesis) (fs : List Frame) : Type 0 where
  pub store : HasStore bank s
  pub kept : IsStore (store_of bank s)
  pub context : HasContext bank hs
  pub frames : AllByRecursion (HasFrame bank) fs
  pub nested : AreNested (length s.values) (length hs) fs
  pub stand : WaitingStand (store_of bank s) (waits bank s hs fs)

-- what waits keeps at least so many values
abbrev pub KeepsValues : ℕ → Frame → Type 0
KeepsValues n (Frame.Parts p) = Unit {0}
KeepsValues n (Frame.Reducing r) = n ≤ r.given

-- the store has the values of an older one first, and goes back to no older one
pub record IsSince (before s : Places) (fs : List Frame) : Type 0 where
  pub more : GivesMore before s
  pub keep : AllByRecursion (KeepsValues (length before.values)) fs

-- the answer over trees: the store, or No
abbrev pub answer_of : Terms → Places → Bool → Answer
answer_of bank s true = Some (store_of bank s)
answer_of bank s false = None

-- how much of the turns what waits takes
abbrev pub turn_weight : Frame → ℕ
turn_weight (Frame.Parts p) = 1
turn_weight (Frame.Reducing r) = 4

abbrev pub turns : List Frame → ℕ
turns [] = 0
turns (f ∷ fs) = turn_weight f + turns fs

-- how many hypotheses its context has
abbrev pub mark_of : Frame → ℕ
mark_of (Frame.Parts p) = p.mark
mark_of (Frame.Reducing r) = r.mark
