-- Streams as their callers see them.
use Rattle.std.specs.Prelude.{◌≡◌, ℕ, List, [], Option, Some, None, IfSome}
use Rattle.lq_runs.specs.Runs.{Run, Runs}
use Rattle.lq_runs.specs.Machines.{Does}
use Rattle.lq_runs.specs.Stacks as Stacks
use Rattle.lq_stream.specs.Stepping.{Telling, Knowing}
use Rattle.lq_stream.specs.Reading.{choices_of, asked}
use Rattle.lq_stream.specs.Places.{Held}
use Rattle.lq_stream.specs.declared.stacks.Link.{Link}
use Rattle.lq_stream.specs.declared.stacks.Choice.{Choice}
use Rattle.lq_stream.specs.declared.turns.Doing.{Doing}
use Rattle.lq_stream.specs.declared.turns.Doing.TheVariants.{Run as Running, Failure}

-- what a stream keeps between two answers: its code until it is asked, its continuations, its choices and their tops
pub record Keeping (A R V C K : Type 0) : Type 0 where
  pub fresh : Option A
  pub links : List (Link R)
  pub choices : List (Choice A V C K)
  pub tops : List ℕ

module _ {A R V C K A2 R2 V2 C2 S : Type 0} where
  -- the alternatives that a stream holds, where a number bounds the depth of their runs
  abbrev pub alternatives : {M : Type 0} → Does M C2 S V2 A2 R2 → Telling A R V C K A2 R2 V2 C2 S → Keeping A R V C K → ℕ → Runs M C2 S V2
  alternatives d t x n = Stacks.held d n (choices_of t x.links x.choices)

  -- the run that a stream is asked for in a state, by that bound: that of its code, where it has not been asked so far, else
  -- its alternatives resumed by a demand
  abbrev pub run_of : {M : Type 0} → Does M C2 S V2 A2 R2 → Telling A R V C K A2 R2 V2 C2 S → S → Keeping A R V C K → ℕ → C2 → ℕ → Run M C2 S V2
  run_of d t s x level cause = asked d t.code s x.fresh (alternatives d t x) level cause

  -- a stream may be asked: the machine knows all that it names, it has its code and nothing else before its first answer,
  -- and no construct is at work
  pub record IsReady (k : Knowing A R V C K) (t : Telling A R V C K A2 R2 V2 C2 S) (x : Keeping A R V C K) : Type 0 where
    pub code : IfSome x.fresh k.code
    pub alone : IfSome x.fresh (λ a. x.choices ≡ [])
    pub held : Held k x.links x.choices x.tops
    pub fits : Stacks.Fits A2 R2 V2 C2 S [] (choices_of t x.links x.choices)

-- what a stream does first when it is asked: it runs its code, else it fails with the demand
abbrev pub doing_for : {A V C : Type 0} → Option A → ℕ → C → Doing A V C
doing_for (Some a) l c = Running a
doing_for None l c = Failure l c
