-- How the fields of a stream are read.
use Rattle.std.specs.Prelude.{◌≡◌, ℕ, List, [], ◌∷◌, ◌++◌, Option, Some, None, slice_get}
use Rattle.lq_runs.specs.Runs.{Run, Runs, resume, part_all}
use Rattle.lq_runs.specs.Machines.{Does, tree, First, gives, ends}
use Rattle.lq_runs.specs.Stacks as Stacks
use Rattle.lq_stream.specs.Stepping.{Telling}
use Rattle.lq_stream.specs.declared.stacks.Frame.{Frame}
use Rattle.lq_stream.specs.declared.stacks.Frame.TheVariants.{Then, Test, Only, Less, Alone}
use Rattle.lq_stream.specs.declared.stacks.Link.{Link}
use Rattle.lq_stream.specs.declared.stacks.Choice.{Choice}
use Rattle.lq_stream.specs.declared.stacks.Choice.TheVariants.{Alternative, Otherwise, Lowering, Passed, NoSuccess, FirstSuccess}
use Rattle.lq_stream.specs.declared.stacks.Answer.{Answer}
use Rattle.lq_stream.specs.declared.stacks.Answer.TheVariants.{Success, End}

module _ {R R2 : Type 0} (rest : R → R2) where
  -- the continuation of a frame
  abbrev pub frame_of : Frame R → Stacks.Frame R2
  frame_of (Then x) = Stacks.then (rest x)
  frame_of (Test x h) = Stacks.test (rest x) h
  frame_of (Only h) = Stacks.only h
  frame_of (Less h) = Stacks.less h
  frame_of (Alone h) = Stacks.alone h

  -- the continuations at a place of a list of them
  unfoldable pub stack_in : List (List (Stacks.Frame R2)) → ℕ → List (Stacks.Frame R2)
  stack_in stacks place = elim (slice_get stacks place) [ None ↦ [] | Some ks ↦ ks ]

  -- the continuations at each place: a link's own, and then those at the place below it
  unfoldable pub stacks_from : List (List (Stacks.Frame R2)) → List (Link R) → List (List (Stacks.Frame R2))
  stacks_from stacks [] = stacks
  stacks_from stacks (l ∷ ls) = stacks_from (stacks ++ (frame_of l.frame ∷ stack_in stacks l.below) ∷ []) ls

  -- the continuations at a place of the links; 0 stands for none
  unfoldable pub stack_at : List (Link R) → ℕ → List (Stacks.Frame R2)
  stack_at links place = stack_in (stacks_from ([] ∷ []) links) place

module _ {A R V C K A2 R2 V2 C2 S : Type 0} (told : Telling A R V C K A2 R2 V2 C2 S) (links : List (Link R)) where
  -- what a choice stands for
  abbrev pub choice_of : Choice A V C K → Stacks.Choice A2 R2 V2 C2 S
  choice_of (Alternative x m i) = Stacks.alternative (told.code x) (told.marked m) (stack_at told.rest links i)
  choice_of (Otherwise x m i) = Stacks.otherwise (told.code x) (told.marked m) (stack_at told.rest links i)
  choice_of Lowering = Stacks.lowering
  choice_of Passed = Stacks.passed
  choice_of (NoSuccess c i) = Stacks.sole_one (told.cause c) None (stack_at told.rest links i)
  choice_of (FirstSuccess c m v i) = Stacks.sole_one (told.cause c) (Some (told.marked m, told.value v)) (stack_at told.rest links i)

  -- the choices, the newest first, over those below them
  unfoldable pub choices_onto : List (Stacks.Choice A2 R2 V2 C2 S) → List (Choice A V C K) → List (Stacks.Choice A2 R2 V2 C2 S)
  choices_onto hs [] = hs
  choices_onto hs (x ∷ xs) = choices_onto (choice_of x ∷ hs) xs

  -- what all the choices stand for, the newest first
  abbrev pub choices_of : List (Choice A V C K) → List (Stacks.Choice A2 R2 V2 C2 S)
  choices_of xs = choices_onto [] xs

-- the run that a stream is asked for, by the bound: that of a fresh code, else its alternatives, resumed by a demand
abbrev pub asked : {M C S V A R B : Type 0} → Does M C S V A R → (B → A) → S → Option B → (ℕ → Runs M C S V) → ℕ → C → ℕ → Run M C S V
asked d code s (Some x) alternatives k c n = tree d n (code x) s
asked d code s None alternatives k c n = resume (alternatives n) k c

-- the answer with which a run begins under a budget; `after` are the alternatives that it leaves, before the end of what is left
abbrev pub Answers : {V C V2 C2 M S : Type 0} → (V → V2) → (C → C2) → First M C2 S V2 → ℕ → List M → S → Runs M C2 S V2 → Answer V C → Type 0
Answers value cause f left spoken s after (Success x) = f ≡ gives left spoken s (value x) (part_all left after)
Answers value cause f left spoken s after (End k x) = f ≡ ends left spoken k (cause x)
