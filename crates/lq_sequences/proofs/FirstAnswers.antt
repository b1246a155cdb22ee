-- The first answer of such an expression under a budget, and the sentence that it is.
use Rattle.std.proofs.Common.{◌≡◌, ◌∙◌, refl, ap, ℕ, zero, suc, []}
use Rattle.lq_trees.specs.Ticks.{gives, fails, cut, tick, Outcome, done, failed, steps_out, within}
use Rattle.lq_ast.specs.Tactics.{Tac}
use Rattle.lq_states.specs.Hands.{State}
use Rattle.lq_runs.specs.Runs.{none, part_all}
use Rattle.lq_runs.specs.Machines as machine
use Rattle.lq_runs.specs.Machines.{First, parted, first}
use Rattle.lq_runs.proofs.FirstLaws.{first_part}
use Rattle.lq_meaning.specs.Values.{Text, Value, Cause}
use Rattle.lq_meaning.specs.Works.{World}
use Rattle.lq_sessions.specs.Sessions.{Session, Opened, lines, world_of}
use Rattle.lq_sessions.specs.Expressions.{answer, committed}
use Rattle.lq_sequences.specs.Straight.{IsStraight, Straight, straight, run_of}
use Rattle.lq_sequences.specs.Sentences.{told_state}
use Rattle.lq_sequences.proofs.StraightLaws.{meaning_is}

-- an outcome as the first answer of a run: nothing is said, and no alternative is pending
unfoldable first_of : Outcome Cause State → First Text Cause State Value
first_of (done t left) = machine.gives left [] t Value.unit none
first_of (failed c left) = machine.ends left [] 0 c
first_of steps_out = machine.out []

first_is : (b : ℕ) (r : Straight) → parted (first b (run_of r)) ≡ first_of (within b r)
unfolding first run_of first_of within part_all
first_is b (gives t) = refl
first_is b (fails c) = refl
first_is b cut = refl
first_is zero (tick r) = refl
first_is (suc b) (tick r) = first_is b r

answer_is : (w : World) (b : ℕ) (e : Tac) → IsStraight e → (st : State) → answer w b e st ≡ first_of (within b (straight w.env (suc b) e st))
unfolding answer
answer_is w b e is st =
    first_part b _ ∙ ap (λ r. parted (first b r)) (meaning_is w (suc b) e is st) ∙ first_is b (straight w.env (suc b) e st)

committed_is : (s : Session) (o : Opened) (r : Outcome Cause State) → committed s o (first_of r) ≡ told_state s o r
unfolding committed first_of told_state lines
committed_is s o (done t left) = refl
committed_is s o (failed c left) = refl
committed_is s o steps_out = refl

-- an Ltac sentence that is such an expression does the work on the taken goals, within the budget of the session
pub selected_is : (s : Session) (o : Opened) (e : Tac) → IsStraight e → (st : State) → committed s o (answer (world_of s) s.steps e st) ≡ told_state s o (within s.steps (straight s.env (suc s.steps) e st))
selected_is s o e is st = ap (committed s o) (answer_is (world_of s) s.steps e is st) ∙ committed_is s o _
