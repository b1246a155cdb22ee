-- Expressions of primitives, `;` and `idtac` without messages, as paid work on the goals in hand: without alternatives and messages.
use Rattle.std.specs.Prelude.{◌≡◌, ℕ, zero, suc, true, false, List, [], ◌∷◌, ◌++◌}
use Rattle.lq_trees.specs.Ticks.{Paid, gives, fails, cut, tick, ◌>>=◌, faults_as}
use Rattle.lq_calculus.specs.Declarations.{Env}
use Rattle.lq_ast.specs.Syntax.{Prim}
use Rattle.lq_ast.specs.Tactics.{Tac}
use Rattle.lq_solving.specs.Stores.{has_value}
use Rattle.lq_states.specs.Goals.{nothing_focused, still_open}
use Rattle.lq_states.specs.Hands.{State}
use Rattle.lq_tactics.specs.Rows.{PrimDone}
use Rattle.lq_tactics.specs.Primitives.{run_prim}
use Rattle.lq_runs.specs.Runs as run
use Rattle.lq_meaning.specs.Values.{Value, Cause, not_runnable, by_row, by_goals}
use Rattle.lq_meaning.specs.Works.{LtacRun, done, left_in_hand, with_hand}
use Rattle.lq_sessions.specs.Built.{Parts, is_built}

-- no part of the language but the first
abbrev pub first_parts : Parts
first_parts = record { values = false; backtracking = false; matching = false; focus = false; parallel = false }

-- an expression of primitives, `;` and `idtac`
abbrev pub IsStraight : Tac → Type 0
IsStraight e = is_built first_parts e ≡ true

-- paid work that comes to a state
abbrev pub Straight : Type 0
Straight = Paid Cause State

-- the state after a primitive: its new goals are in hand
abbrev pub did_state : PrimDone → State
did_state d = record { proof = d.proof; hand = still_open d.proof.store d.goals }

-- a primitive on a goal
unfoldable pub goal_work : Env → ℕ → Prim → State → ℕ → Straight
goal_work env m p st g = faults_as by_row (run_prim env m st.proof g p []) >>= λ d. gives (did_state d)

-- a primitive on the only goal in hand
unfoldable pub hand_work : Env → ℕ → Prim → State → Straight
hand_work env m p st = elim st.hand [ [] ↦ fails (by_goals nothing_focused) | g ∷ gs ↦ goal_work env m p st g ]

-- the same work on each goal of `todo` that has no value yet; `left` are the goals that were left so far
unfoldable pub each_work : (State → Straight) → List ℕ → List ℕ → State → Straight
each_work f left [] st = gives (left_in_hand st left)
each_work f left (k ∷ todo) st =
    elim (has_value st.proof.store k) [
      | true ↦ each_work f left todo st
      | false ↦ f (with_hand st (k ∷ [])) >>= λ t. each_work f (left ++ t.hand) todo t
    ]

-- an expression, cut below n expressions one inside the other
unfoldable pub straight : Env → ℕ → Tac → State → Straight
straight env zero e st = cut
straight env (suc m) (Tac.prim p) st = tick (each_work (hand_work env m p) [] st.hand st)
straight env (suc m) (Tac.then a b) st = tick (straight env m a st >>= λ t. straight env m b t)
straight env (suc m) (Tac.idtac ms) st = tick (gives st)
straight env (suc m) _ st = fails not_runnable

-- such work as a run
unfoldable pub run_of : Straight → LtacRun
run_of (gives t) = done t Value.unit
run_of (fails c) = run.fail zero c
run_of cut = run.cut
run_of (tick r) = run.tick (run_of r)
