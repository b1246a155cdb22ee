-- What a piece of a stream's work does: what was seen of the run before it is what it tells, and what is seen of the run after it.
use Rattle.std.specs.Prelude.{◌≡◌, ◌≤◌, ◌<◌, ◌+◌, ℕ, suc, List, [], ◌++◌, Result, Ok, Err}
use Rattle.lq_runs.specs.Runs.{Run, Runs}
use Rattle.lq_runs.specs.Machines.{Does, out, heard, seen, Lastly}
use Rattle.lq_runs.specs.Stacks as Stacks
use Rattle.lq_runs.specs.Streams.{cost, frames_cost, choices_cost}
use Rattle.lq_stream.specs.Stepping.{Telling, Knowing}
use Rattle.lq_stream.specs.Reading.{stack_at, choices_of, Answers}
use Rattle.lq_stream.specs.Holding.{HasDoing, Stands}
use Rattle.lq_stream.specs.declared.moves.StepFault.{StepFault}
use Rattle.lq_stream.specs.declared.stacks.StreamFault.{StreamFault}
use Rattle.lq_stream.specs.declared.stacks.Answer.{Answer}
use Rattle.lq_stream.specs.declared.stacks.Link.{Link}
use Rattle.lq_stream.specs.declared.stacks.Choice.{Choice}
use Rattle.lq_stream.specs.declared.turns.Doing.{Doing}
use Rattle.lq_stream.specs.declared.turns.Doing.TheVariants.{Run as Running, Success, Failure, Look}
use Rattle.lq_stream.specs.declared.turns.Turn.{Turn}
use Rattle.lq_stream.specs.declared.turns.Turn.TheVariants.{GoesOn, Answered}

module _ {M C S V : Type 0} where
  -- from one moment to another: messages were added, and what is seen of the run f under the ticks that were left is those
  -- messages and then what is seen of the run g under the ticks that are left
  pub record Goes (left : ℕ) (old : List M) (f : ℕ → Run M C S V) (left2 : ℕ) (new : List M) (g : ℕ → Run M C S V) : Type 0 where
    pub spoken : List M
    pub added : new ≡ old ++ spoken
    pub same : Lastly (λ n. seen left (f n) ≡ heard spoken (seen left2 (g n)))

  -- the budget is spent: messages were added, and they are what is seen of the run under the ticks that were left
  pub record Spends (left : ℕ) (old : List M) (f : ℕ → Run M C S V) (new : List M) : Type 0 where
    pub spoken : List M
    pub added : new ≡ old ++ spoken
    pub same : Lastly (λ n. seen left (f n) ≡ out spoken)

-- an answer: messages were added, and with them, with the ticks that are left, with the state and the alternatives that
-- are left it is what is seen of the run under the ticks that were left
pub record Gives {V C V2 C2 M S : Type 0} (value : V → V2) (cause : C → C2) (left : ℕ) (old : List M) (f : ℕ → Run M C2 S V2) (left2 : ℕ) (new : List M) (s : S)
    (after : ℕ → Runs M C2 S V2) (x : Answer V C) : Type 0 where
  pub spoken : List M
  pub added : new ≡ old ++ spoken
  pub same : Lastly (λ n. Answers value cause (seen left (f n)) left2 spoken s (after n) x)

-- a moment of a stream's work: what the machine's parts stand for, its state and its messages, the ticks that are left, and the two lists
pub record Scene (A R V C K A2 R2 V2 C2 S M : Type 0) : Type 0 where
  pub told : Telling A R V C K A2 R2 V2 C2 S
  pub state : S
  pub messages : List M
  pub left : ℕ
  pub links : List (Link R)
  pub choices : List (Choice A V C K)

module _ {A R V C K A2 R2 V2 C2 S : Type 0} (rank : A2 → ℕ) (rest_rank : R2 → ℕ) (t : Telling A R V C K A2 R2 V2 C2 S) where
  -- how many turns the work at hand may take before the next tick
  abbrev pub doing_cost : Doing A V C → ℕ
  doing_cost (Running a) = suc (cost (rank (t.code a)))
  doing_cost (Success v) = 1
  doing_cost (Failure n c) = 0
  doing_cost Look = 0

  -- how many turns a stream may take before its next tick
  abbrev pub doing_turns : Doing A V C → List (Stacks.Frame R2) → List (Stacks.Choice A2 R2 V2 C2 S) → ℕ
  doing_turns x ks hs = doing_cost x + frames_cost rest_rank ks + choices_cost rank rest_rank hs

module _ {A R V C K A2 R2 V2 C2 S M : Type 0} (rank : A2 → ℕ) (rest_rank : R2 → ℕ) (d : Does M C2 S V2 A2 R2) where
  -- what is done next at a place, at a moment, is a run
  abbrev pub Works : Scene A R V C K A2 R2 V2 C2 S M → Doing A V C → ℕ → (ℕ → Run M C2 S V2) → Type 0
  Works o x p f = Stands rest_rank o.told d o.state x (stack_at o.told.rest o.links p) (choices_of o.told o.links o.choices) f

  -- how many turns a moment may take before the next tick
  abbrev pub turns_at : Scene A R V C K A2 R2 V2 C2 S M → Doing A V C → ℕ → ℕ
  turns_at o x p = doing_turns rank rest_rank o.told x (stack_at o.told.rest o.links p) (choices_of o.told o.links o.choices)

  -- what comes of a run from one moment to another: it goes on as another run, or there is an answer, or the budget is spent
  abbrev pub LeadsTo : Scene A R V C K A2 R2 V2 C2 S M → Scene A R V C K A2 R2 V2 C2 S M → (ℕ → Run M C2 S V2) → Result (Turn A V C) StepFault → Type 0
  LeadsTo o n f (Ok (GoesOn y q)) = (g : ℕ → Run M C2 S V2) × Works n y q g × Goes o.left o.messages f n.left n.messages g
  LeadsTo o n f (Ok (Answered a)) =
      Gives n.told.value n.told.cause o.left o.messages f n.left n.messages n.state (λ m. Stacks.held d m (choices_of n.told n.links n.choices)) a
      × Stacks.Fits A2 R2 V2 C2 S [] (choices_of n.told n.links n.choices)
  LeadsTo o n f (Err StepFault.StepsOut) = Spends o.left o.messages f n.messages × (n.left ≡ 0)
  LeadsTo o n f (Err StepFault.NoMemory) = Unit {0}

  -- where it goes on without a tick, fewer turns are left
  abbrev pub FallsTo : Scene A R V C K A2 R2 V2 C2 S M → Doing A V C → ℕ → Scene A R V C K A2 R2 V2 C2 S M → Result (Turn A V C) StepFault → Type 0
  FallsTo o x p n (Ok (GoesOn y q)) = n.left ≡ o.left → turns_at n y q < turns_at o x p
  FallsTo o x p n (Ok (Answered a)) = Unit {0}
  FallsTo o x p n (Err e) = Unit {0}

  -- both, whichever run it is
  abbrev pub Turns : Scene A R V C K A2 R2 V2 C2 S M → Doing A V C → ℕ → Scene A R V C K A2 R2 V2 C2 S M → Result (Turn A V C) StepFault → Type 0
  Turns o x p n r = (f : ℕ → Run M C2 S V2) → Works o x p f → LeadsTo o n f r × FallsTo o x p n r

  -- what comes of a run in the end: an answer, or the budget is spent; of a stop nothing more is said
  abbrev pub EndsAs : Scene A R V C K A2 R2 V2 C2 S M → Scene A R V C K A2 R2 V2 C2 S M → (ℕ → Run M C2 S V2) → Result (Answer V C) StreamFault → Type 0
  EndsAs o n f (Ok a) = LeadsTo o n f (Ok (Answered a))
  EndsAs o n f (Err StreamFault.StepsOut) = LeadsTo o n f (Err StepFault.StepsOut)
  EndsAs o n f (Err StreamFault.Cancelled) = Unit {0}
  EndsAs o n f (Err StreamFault.NoMemory) = Unit {0}

-- where work goes on, a tick was paid
abbrev pub Ticked : {A V C : Type 0} → ℕ → ℕ → Turn A V C → Type 0
Ticked left left2 (GoesOn y q) = left2 < left
Ticked left left2 (Answered a) = Unit {0}

-- what a turn leaves to do is known, at a place that is there
abbrev pub TurnHas : {A R V C K : Type 0} → Knowing A R V C K → ℕ → Turn A V C → Type 0
TurnHas k places (GoesOn y q) = HasDoing k y × (q ≤ places)
TurnHas k places (Answered a) = Unit {0}
