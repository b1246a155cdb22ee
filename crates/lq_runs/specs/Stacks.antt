-- A stream at work: its two stacks, what they have in common, and the run that is still to come.
use Rattle.std.specs.Prelude.{ℕ, zero, true, false, eqb, leb, List, [], ◌∷◌, ◌++◌, length, Option, Some, None}
use Rattle.lq_runs.specs.Runs.{Run, Runs, fail, yield, none, more, ended, over, bind, branch, once, lower, sole}
use Rattle.lq_runs.specs.Machines.{Does, tree}

-- a continuation: a rest, or the mark of a construct; a number is a height of the stack of choices
pub data Frame (R : Type 0) : Type 0 where
  then : R → Frame R
  -- of a branch with that rest, whose handler lies at that height
  test : R → ℕ → Frame R
  -- of a `once`: a success takes the choices down to that height
  only : ℕ → Frame R
  -- of a `lower`, whose handler lies at that height
  less : ℕ → Frame R
  -- of an exactly-once, whose handler lies at that height
  alone : ℕ → Frame R

-- a choice, with the continuations that it goes on with; what was marked is given as the state
pub data Choice (A R V C S : Type 0) : Type 0 where
  alternative : A → S → List (Frame R) → Choice A R V C S
  -- the handler of a branch, and that of a `lower`
  otherwise : A → S → List (Frame R) → Choice A R V C S
  lowering : Choice A R V C S
  -- a handler whose construct has had its success: it acts no longer
  passed : Choice A R V C S
  -- the handler of an exactly-once, with the cause of its failure, and the first success once there is one
  sole_one : C → Option (S × V) → List (Frame R) → Choice A R V C S

module _ {A R V C S : Type 0} where
  -- the choice at a height; the newest comes first
  unfoldable pub at : ℕ → List (Choice A R V C S) → Option (Choice A R V C S)
  at h [] = None
  at h (x ∷ hs) = elim (eqb (length hs) h) [ true ↦ Some x | false ↦ at h hs ]

  -- a handler that acts no longer
  unfoldable pub off : Choice A R V C S → Choice A R V C S
  off (otherwise a s ks) = passed
  off lowering = passed
  off x = x

  -- the handler at a height acts no longer
  unfoldable pub switched : ℕ → List (Choice A R V C S) → List (Choice A R V C S)
  switched h [] = []
  switched h (x ∷ hs) = elim (eqb (length hs) h) [ true ↦ off x ∷ hs | false ↦ x ∷ switched h hs ]

  -- the handler at a height keeps the first success
  unfoldable pub keeping : S → V → Choice A R V C S → Choice A R V C S
  keeping s v (sole_one c o ks) = sole_one c (Some (s, v)) ks
  keeping s v x = x

  -- choices in which the handler at a height keeps the first success
  unfoldable pub kept : ℕ → S → V → List (Choice A R V C S) → List (Choice A R V C S)
  kept h s v [] = []
  kept h s v (x ∷ hs) = elim (eqb (length hs) h) [ true ↦ keeping s v x ∷ hs | false ↦ x ∷ kept h s v hs ]

  -- the choices below a height
  unfoldable pub down : ℕ → List (Choice A R V C S) → List (Choice A R V C S)
  down h [] = []
  down h (x ∷ hs) = elim (leb (length (x ∷ hs)) h) [ true ↦ x ∷ hs | false ↦ down h hs ]

  -- a handler that acts no longer
  abbrev pub IsOff : Option (Choice A R V C S) → Type 0
  IsOff (Some passed) = Unit {0}
  IsOff _ = ⊥

  -- continuations whose constructs have had their success
  abbrev pub Passive : List (Choice A R V C S) → List (Frame R) → Type 0
  Passive hs [] = Unit {0}
  Passive hs (then r ∷ ks) = Passive hs ks
  Passive hs (test r h ∷ ks) = IsOff (at h hs) × Passive hs ks
  Passive hs (less h ∷ ks) = IsOff (at h hs) × Passive hs ks
  Passive hs (only h ∷ ks) = ⊥
  Passive hs (alone h ∷ ks) = ⊥

-- the continuations from the innermost construct on that still acts, and the choices under them: what a stream keeps true
pub data Fits (A R V C S : Type 0) : List (Frame R) → List (Choice A R V C S) → Type 0 where
  bottom : Fits A R V C S [] []
  -- an alternative: passive continuations, and then those of the construct
  beside : {bs : List (Frame R)} {hs : List (Choice A R V C S)} (a : A) (s : S) (ps : List (Frame R)) → Passive hs ps → Fits A R V C S bs hs →
      Fits A R V C S bs (alternative a s (ps ++ bs) ∷ hs)
  passing : {bs : List (Frame R)} {hs : List (Choice A R V C S)} → Fits A R V C S bs hs → Fits A R V C S bs (passed ∷ hs)
  in_branch : {bs : List (Frame R)} {hs : List (Choice A R V C S)} (r : R) (a : A) (s : S) (ps : List (Frame R)) → Passive hs ps → Fits A R V C S bs hs →
      Fits A R V C S (test r (length hs) ∷ (ps ++ bs)) (otherwise a s (ps ++ bs) ∷ hs)
  in_once : {bs : List (Frame R)} {hs : List (Choice A R V C S)} (ps : List (Frame R)) → Passive hs ps → Fits A R V C S bs hs →
      Fits A R V C S (only (length hs) ∷ (ps ++ bs)) hs
  in_lower : {bs : List (Frame R)} {hs : List (Choice A R V C S)} (ps : List (Frame R)) → Passive hs ps → Fits A R V C S bs hs →
      Fits A R V C S (less (length hs) ∷ (ps ++ bs)) (lowering ∷ hs)
  in_sole : {bs : List (Frame R)} {hs : List (Choice A R V C S)} (c : C) (o : Option (S × V)) (ps : List (Frame R)) → Passive hs ps → Fits A R V C S bs hs →
      Fits A R V C S (alone (length hs) ∷ (ps ++ bs)) (sole_one c o (ps ++ bs) ∷ hs)

-- the look for a second success, where there has been a first one
unfoldable pub looked : {M C S V : Type 0} → C → Option (S × V) → Run M C S V → Run M C S V
looked c None r = sole c r
looked c (Some p) r = ended (λ k d. yield p.0 p.1 none) (λ t w as1. fail zero c) r

module _ {M C S V A R : Type 0} (d : Does M C S V A R) (n : ℕ) where
  -- what a rest goes on with
  unfoldable pub goes_on : R → S → V → Run M C S V
  goes_on r s v = tree d n (d.enters r v) s

  -- a run, and then passive continuations
  unfoldable pub bound : List (Frame R) → Run M C S V → Run M C S V
  bound [] r = r
  bound (then x ∷ ks) r = bound ks (bind r (goes_on x))
  bound (test x h ∷ ks) r = bound ks (bind r (goes_on x))
  bound (_ ∷ ks) r = bound ks r

  -- the alternatives that a stream holds between two answers
  unfoldable pub held : List (Choice A R V C S) → Runs M C S V
  held [] = none
  held (alternative a s ks ∷ hs) = more (bound ks (tree d n a s)) (held hs)
  held (_ ∷ hs) = held hs

  -- the alternatives above the innermost construct that acts
  unfoldable pub beside_it : {bs : List (Frame R)} {hs : List (Choice A R V C S)} → Fits A R V C S bs hs → Runs M C S V
  beside_it bottom = none
  beside_it (beside a s ps p f) = more (bound ps (tree d n a s)) (beside_it f)
  beside_it (passing f) = beside_it f
  beside_it (in_branch r a s ps p f) = none
  beside_it (in_once ps p f) = none
  beside_it (in_lower ps p f) = none
  beside_it (in_sole c o ps p f) = none

  -- what stands round the runs in that construct
  unfoldable pub around : {bs : List (Frame R)} {hs : List (Choice A R V C S)} → Fits A R V C S bs hs → Run M C S V → Run M C S V
  around bottom r = r
  around (beside a s ps p f) r = around f r
  around (passing f) r = around f r
  around (in_branch x a s ps p f) r = around f (over (bound ps (branch r (goes_on x) (tree d n a s))) (beside_it f))
  around (in_once ps p f) r = around f (over (bound ps (once r)) (beside_it f))
  around (in_lower ps p f) r = around f (over (bound ps (lower r)) (beside_it f))
  around (in_sole c o ps p f) r = around f (over (bound ps (looked c o r)) (beside_it f))

  -- the whole run, by the run at work, its passive continuations and what stands round them
  unfoldable pub whole : {bs : List (Frame R)} {hs : List (Choice A R V C S)} → List (Frame R) → Fits A R V C S bs hs → Run M C S V → Run M C S V
  whole ps f r = around f (over (bound ps r) (beside_it f))
