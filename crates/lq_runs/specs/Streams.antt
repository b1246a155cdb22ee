-- A stream at work: what it does next, and what it takes before its next tick.
use Rattle.std.specs.Prelude.{◌≡◌, ◌≤◌, ◌+◌, ◌*◌, ℕ, zero, suc, List, [], ◌∷◌, ◌++◌}
use Rattle.lq_runs.specs.Runs.{Run, fail, yield, none}
use Rattle.lq_runs.specs.Machines.{Does, Move, row, tree}
use Rattle.lq_runs.specs.Stacks.{Frame, then, test, Choice, alternative, otherwise, Passive, Fits, whole}

-- what a stream does next: a code is run, a move is made, a success goes on, or a failure
pub data Work (A R V C : Type 0) : Type 0 where
  runs : A → Work A R V C
  moves : Move A R V C → Work A R V C
  has : V → Work A R V C
  fails : ℕ → C → Work A R V C

-- the run of it in a state
unfoldable pub run_of : {M C S V A R : Type 0} → Does M C S V A R → ℕ → S → Work A R V C → Run M C S V
run_of d n s (runs a) = tree d n a s
run_of d n s (moves x) = row d.enters (tree d n) s x
run_of d n s (has v) = yield s v none
run_of d n s (fails k c) = fail k c

-- how many turns a code or a rest of that rank may take before its next tick
unfoldable pub cost : ℕ → ℕ
cost zero = 1
cost (suc n) = 3 * cost n + 3

module _ {R : Type 0} (rest_rank : R → ℕ) where
  -- how many turns a continuation may take
  unfoldable pub frame_cost : Frame R → ℕ
  frame_cost (then r) = cost (rest_rank r)
  frame_cost (test r h) = cost (rest_rank r)
  frame_cost _ = 1

  -- how many turns all the continuations may take
  unfoldable pub frames_cost : List (Frame R) → ℕ
  frames_cost [] = 0
  frames_cost (k ∷ ks) = frame_cost k + frames_cost ks

module _ {A R V C : Type 0} where
  -- how many turns the work at hand may take
  unfoldable pub work_cost : (A → ℕ) → Work A R V C → ℕ
  work_cost rank (runs a) = suc (cost (rank a))
  work_cost rank (has v) = 1
  work_cost rank _ = 0

  -- the continuations as far as they matter: a failure looks at the choices alone
  abbrev pub Framed : (R → ℕ) → Work A R V C → List (Frame R) → List (Frame R) → Type 0
  Framed rest_rank (fails k c) ks ls = frames_cost rest_rank ls ≤ frames_cost rest_rank ks
  Framed rest_rank _ ks ls = ks ≡ ls

module _ {A R V C S : Type 0} (rank : A → ℕ) (rest_rank : R → ℕ) where
  -- how many turns a choice may take; a handler's continuations are those of its construct and counted there
  unfoldable pub choice_cost : Choice A R V C S → ℕ
  choice_cost (alternative a s ks) = 2 + cost (rank a) + frames_cost rest_rank ks
  choice_cost (otherwise a s ks) = 2 + cost (rank a)
  choice_cost _ = 1

  -- how many turns all the choices may take
  unfoldable pub choices_cost : List (Choice A R V C S) → ℕ
  choices_cost [] = 0
  choices_cost (x ∷ hs) = choice_cost x + choices_cost hs

  -- how many turns a stream may take before its next tick
  abbrev pub turns : Work A R V C → List (Frame R) → List (Choice A R V C S) → ℕ
  turns w ks hs = work_cost rank w + frames_cost rest_rank ks + choices_cost hs

-- what a stream does next, in a state, over its two stacks, is a run
pub record Shows {M C S V A R : Type 0} (rest_rank : R → ℕ) (d : Does M C S V A R) (s : S) (w : Work A R V C) (ks : List (Frame R)) (hs : List (Choice A R V C S))
    (f : ℕ → Run M C S V) : Type 0 where
  pub bs : List (Frame R)
  pub ps : List (Frame R)
  pub fits : Fits A R V C S bs hs
  pub passive : Passive hs ps
  pub framed : Framed rest_rank w ks (ps ++ bs)
  pub same : (n : ℕ) → f n ≡ whole d n ps fits (run_of d n s w)
