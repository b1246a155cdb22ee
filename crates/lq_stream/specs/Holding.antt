-- What the two stacks of a stream keep: links lead to earlier places, choices to places that are there.
use Rattle.std.specs.Prelude.{◌≤◌, ℕ, zero, suc, List, [], ◌∷◌, Some}
use Rattle.lq_runs.specs.Machines.{Does}
use Rattle.lq_runs.specs.Runs.{Run}
use Rattle.lq_runs.specs.Stacks as Stacks
use Rattle.lq_runs.specs.Streams.{runs, has, fails, Shows}
use Rattle.lq_stream.specs.Stepping.{Telling, Knowing}
use Rattle.lq_stream.specs.declared.stacks.Frame.{Frame}
use Rattle.lq_stream.specs.declared.stacks.Frame.TheVariants.{Then, Test, Alone}
use Rattle.lq_stream.specs.declared.stacks.Link.{Link}
use Rattle.lq_stream.specs.declared.stacks.Choice.{Choice}
use Rattle.lq_stream.specs.declared.stacks.Choice.TheVariants.{Alternative, Otherwise, Lowering, Passed, NoSuccess, FirstSuccess}
use Rattle.lq_stream.specs.declared.turns.Doing.{Doing}
use Rattle.lq_stream.specs.declared.turns.Doing.TheVariants.{Run as Running, Success, Failure, Look}

-- the rest of a continuation, if it has one, has a property
abbrev pub RestHas : {R : Type 0} → (R → Type 0) → Frame R → Type 0
RestHas P (Then r) = P r
RestHas P (Test r h) = P r
RestHas P _ = Unit {0}

-- no exactly-once
abbrev pub IsPlain : {R : Type 0} → Frame R → Type 0
IsPlain (Alone h) = ⊥
IsPlain _ = Unit {0}

-- links counted on from n: each leads to an earlier place, and its rest has the property
abbrev pub AreLinks : {R : Type 0} → (R → Type 0) → ℕ → List (Link R) → Type 0
AreLinks P n [] = Unit {0}
AreLinks P n (l ∷ ls) = (l.below ≤ n) × RestHas P l.frame × AreLinks P (suc n) ls

module _ {A R V C K : Type 0} (k : Knowing A R V C K) (places : ℕ) where
  -- all that a choice names is known, and its continuations are there
  abbrev pub IsChoice : Choice A V C K → Type 0
  IsChoice (Alternative a m i) = k.code a × k.mark m × (i ≤ places)
  IsChoice (Otherwise a m i) = k.code a × k.mark m × (i ≤ places)
  IsChoice Lowering = Unit {0}
  IsChoice Passed = Unit {0}
  IsChoice (NoSuccess c i) = k.cause c × (i ≤ places)
  IsChoice (FirstSuccess c m v i) = k.cause c × k.mark m × k.value v × (i ≤ places)

  -- each of the choices is such a choice
  abbrev pub AreChoices : List (Choice A V C K) → Type 0
  AreChoices [] = Unit {0}
  AreChoices (x ∷ xs) = IsChoice x × AreChoices xs

-- a choice's mark, if it has one, is known
abbrev pub KnowsMark : {A V C K : Type 0} → (K → Type 0) → Choice A V C K → Type 0
KnowsMark P (Alternative a m i) = P m
KnowsMark P (Otherwise a m i) = P m
KnowsMark P (FirstSuccess c m v i) = P m
KnowsMark P _ = Unit {0}

-- some choice is a handler with its first success
abbrev pub HasFirst : {A R V C S : Type 0} → List (Stacks.Choice A R V C S) → Type 0
HasFirst [] = ⊥
HasFirst (Stacks.sole_one c (Some o) ks ∷ hs) = Unit {0}
HasFirst (x ∷ hs) = HasFirst hs

-- what a stream does next, over its two stacks, is a run; the cause of a look never shows
abbrev pub Stands : {A V C A2 R2 V2 C2 S M R K : Type 0} → (R2 → ℕ) → Telling A R V C K A2 R2 V2 C2 S → Does M C2 S V2 A2 R2 → S → Doing A V C →
    List (Stacks.Frame R2) → List (Stacks.Choice A2 R2 V2 C2 S) → (ℕ → Run M C2 S V2) → Type 0
Stands rank t d s (Running a) ks hs f = Shows rank d s (runs (t.code a)) ks hs f
Stands rank t d s (Success v) ks hs f = Shows rank d s (has (t.value v)) ks hs f
Stands rank t d s (Failure k c) ks hs f = Shows rank d s (fails k (t.cause c)) ks hs f
Stands rank t d s Look ks hs f = (c : _) × Shows rank d s (fails 0 c) ks hs f × HasFirst hs

-- all that it names is known
abbrev pub HasDoing : {A R V C K : Type 0} → Knowing A R V C K → Doing A V C → Type 0
HasDoing k (Running a) = k.code a
HasDoing k (Success v) = k.value v
HasDoing k (Failure l c) = k.cause c
HasDoing k Look = Unit {0}

-- a choice as it is once its construct has had its success
abbrev pub off_choice : {A V C K : Type 0} → Choice A V C K → Choice A V C K
off_choice (Otherwise a m i) = Passed
off_choice Lowering = Passed
off_choice x = x

-- choices in which the handler at a height acts no longer
unfoldable pub offs : {A V C K : Type 0} → ℕ → List (Choice A V C K) → List (Choice A V C K)
offs h [] = []
offs zero (x ∷ xs) = off_choice x ∷ xs
offs (suc h) (x ∷ xs) = x ∷ offs h xs
