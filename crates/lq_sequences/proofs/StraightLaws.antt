-- The meaning of an expression of primitives, `;` and `idtac` is its work.
use Rattle.std.proofs.Common.{◌≡◌, ◌∙◌, refl, ap, ℕ, zero, suc, Bool, true, false, List, [], ◌∷◌, ◌++◌, Some, None, Ok}
use Rattle.std.specs.Prelude.{◌&&◌}
use Rattle.lq_trees.specs.Tree.{Name}
use Rattle.lq_trees.specs.Ticks.{Paid, gives, fails, cut, tick, ◌>>=◌, faults_as}
use Rattle.lq_ast.specs.Syntax.{Prim, intro, intros, exact, refine, apply_with, eapply, assumption, constructor, split, to_left, to_right, exists, assert_that, cut_by, pose, exfalso, reflexivity}
use Rattle.lq_ast.specs.Tactics.{Tac}
use Rattle.lq_solving.specs.Stores.{Store, has_value}
use Rattle.lq_states.specs.Hands.{State}
use Rattle.lq_tactics.specs.Rows.{RowFault, PrimDone}
use Rattle.lq_tactics.specs.Primitives.{run_prim}
use Rattle.lq_runs.specs.Runs.{bind, over, none}
use Rattle.lq_runs.specs.Runs as run
use Rattle.lq_runs.proofs.RunLaws.{over_none}
use Rattle.lq_meaning.specs.Values.{Value, Locals, no_local, local_value, by_row, givens}
use Rattle.lq_meaning.specs.Works.{World, LtacRun, after_work, after_answer, same_cause, each, each_on, with_hand}
use Rattle.lq_states.specs.Goals.{nothing_focused}
use Rattle.lq_meaning.specs.Values.{by_goals}
use Rattle.lq_meaning.specs.Texts.{and_then, all_of, wanted_of, wanted, wanted_all, prim_named}
use Rattle.lq_meaning.specs.Forms.{on_goal, did, prim_run, idtac_run}
use Rattle.lq_meaning.specs.Meaning.{own_row, paid_row, row, evaluated, evaluation, meaning}
use Rattle.lq_sessions.specs.Built.{is_built}
use Rattle.lq_sequences.specs.Straight.{first_parts, IsStraight, Straight, did_state, goal_work, hand_work, each_work, straight, run_of}

-- ---- names, where no Ltac name stands for anything

all_wanted : (s : Store) (xs : List Name) → wanted_all no_local s xs ≡ Ok xs
unfolding wanted_all all_of wanted wanted_of local_value and_then
all_wanted s [] = refl
all_wanted s (x ∷ xs) = ap (λ r. and_then r (λ ys. Ok (x ∷ ys))) (all_wanted s xs)

-- a primitive has its own names
pub named_is : (s : Store) (p : Prim) → prim_named no_local s p ≡ Ok p
unfolding prim_named wanted wanted_of local_value and_then
named_is s (intro None) = refl
named_is s (intro (Some x)) = refl
named_is s (intros xs) = ap (λ r. and_then r (λ ys. Ok (intros ys))) (all_wanted s xs)
named_is s (exact t) = refl
named_is s (refine t) = refl
named_is s (apply_with t) = refl
named_is s (eapply t) = refl
named_is s assumption = refl
named_is s (constructor n) = refl
named_is s split = refl
named_is s to_left = refl
named_is s to_right = refl
named_is s (exists t) = refl
named_is s (assert_that x A) = refl
named_is s (cut_by A) = refl
named_is s (pose x t) = refl
named_is s exfalso = refl
named_is s reflexivity = refl

-- ---- work as a run

-- work, and then a run that is other work
pub bind_run : (r : Straight) (f : State → Value → LtacRun) (k : State → Straight) → ((t : State) → f t Value.unit ≡ run_of (k t)) → bind (run_of r) f ≡ run_of (r >>= k)
unfolding run_of bind ◌>>=◌
bind_run (gives t) f k h = over_none (f t Value.unit) ∙ h t
bind_run (fails c) f k h = refl
bind_run cut f k h = refl
bind_run (tick r) f k h = ap run.tick (bind_run r f k h)

work_run : (r : Paid RowFault PrimDone) → after_work by_row did r ≡ run_of (faults_as by_row r >>= λ d. gives (did_state d))
unfolding after_work did run_of faults_as ◌>>=◌
work_run (gives d) = refl
work_run (fails c) = refl
work_run cut = refl
work_run (tick r) = ap run.tick (work_run r)

prim_is : (w : World) (m : ℕ) (p : Prim) (st : State) → prim_run w m no_local p st ≡ run_of (hand_work w.env m p st)
unfolding prim_run on_goal after_answer hand_work goal_work givens run_of
prim_is w m p st = step st.hand where
  step : (ks : List ℕ) → elim ks as (λ _. LtacRun) [ [] ↦ run.fail zero (by_goals nothing_focused) | g ∷ gs ↦ after_answer same_cause (λ q. after_work by_row did (run_prim w.env m st.proof g q [])) (prim_named no_local st.proof.store p) ]
      ≡ run_of (elim ks as (λ _. Straight) [ [] ↦ fails (by_goals nothing_focused) | g ∷ gs ↦ faults_as by_row (run_prim w.env m st.proof g p []) >>= λ d. gives (did_state d) ])
  step [] = refl
  step (g ∷ gs) = ap (after_answer same_cause (λ q. after_work by_row did (run_prim w.env m st.proof g q []))) (named_is st.proof.store p) ∙ work_run (run_prim w.env m st.proof g p [])

-- a form on each goal
pub each_run : (f : State → LtacRun) (g : State → Straight) → ((s : State) → f s ≡ run_of (g s)) → (left todo : List ℕ) (st : State) → each_on f left todo Value.unit st ≡ run_of (each_work g left todo st)
unfolding each_on each_work run_of
each_run f g h left [] st = refl
each_run f g h left (k ∷ todo) st = step (has_value st.proof.store k) (each_run f g h left todo st) (λ t. each_run f g h (left ++ t.hand) todo t) where
  step : (b : Bool) → each_on f left todo Value.unit st ≡ run_of (each_work g left todo st) → ((t : State) → each_on f (left ++ t.hand) todo Value.unit t ≡ run_of (each_work g (left ++ t.hand) todo t)) →
      elim b as (λ _. LtacRun) [ true ↦ each_on f left todo Value.unit st | false ↦ bind (f (with_hand st (k ∷ []))) (λ t u. each_on f (left ++ t.hand) todo u t) ]
      ≡ run_of (elim b as (λ _. Straight) [ true ↦ each_work g left todo st | false ↦ g (with_hand st (k ∷ [])) >>= λ t. each_work g (left ++ t.hand) todo t ])
  step true a more = a
  step false a more =
      ap (λ r. bind r (λ t u. each_on f (left ++ t.hand) todo u t)) (h (with_hand st (k ∷ [])))
      ∙ bind_run (g (with_hand st (k ∷ []))) (λ t u. each_on f (left ++ t.hand) todo u t) (λ t. each_work g (left ++ t.hand) todo t) more

-- ---- the meaning

prim_row : (w : World) (m : ℕ) (go : Bool → Tac → Locals → State → LtacRun) (p : Prim) (st : State) → IsStraight (Tac.prim p) → row w m go false (Tac.prim p) no_local st ≡ paid_row w m go false (Tac.prim p) no_local st
unfolding row is_built
prim_row w m go (intro x) st is = refl
prim_row w m go (intros xs) st is = refl
prim_row w m go (exact t) st is = refl
prim_row w m go (refine t) st is = refl
prim_row w m go (apply_with t) st is = refl
prim_row w m go (eapply t) st is = refl
prim_row w m go assumption st is = refl
prim_row w m go (constructor None) st is = absurd cc
prim_row w m go (constructor (Some n)) st is = refl
prim_row w m go split st is = refl
prim_row w m go to_left st is = refl
prim_row w m go to_right st is = refl
prim_row w m go (exists t) st is = refl
prim_row w m go (assert_that x A) st is = refl
prim_row w m go (cut_by A) st is = refl
prim_row w m go (pose x t) st is = refl
prim_row w m go exfalso st is = refl
prim_row w m go reflexivity st is = refl

both_built : (a b : Bool) → (a && b) ≡ true → (a ≡ true) × (b ≡ true)
both_built true true e = (refl, refl)
both_built true false e = absurd cc
both_built false b e = absurd cc

-- the meaning of such an expression is its work
pub meaning_is : (w : World) (n : ℕ) (e : Tac) → IsStraight e → (st : State) → meaning w n e no_local st ≡ run_of (straight w.env n e st)
unfolding evaluation evaluated row paid_row own_row each idtac_run straight run_of is_built
meaning_is w zero e is st = refl
meaning_is w (suc m) (Tac.prim p) is st =
    prim_row w m (evaluation w m) p st is ∙ ap run.tick (each_run (prim_run w m no_local p) (hand_work w.env m p) (prim_is w m p) [] st.hand st)
meaning_is w (suc m) (Tac.then a b) is st =
    let both = both_built (is_built first_parts a) (is_built first_parts b) is in
    ap run.tick
    (ap (λ r. bind r (λ t u. meaning w m b no_local t)) (meaning_is w m a both.0 st)
    ∙ bind_run (straight w.env m a st) (λ t u. meaning w m b no_local t) (λ t. straight w.env m b t) (λ t. meaning_is w m b both.1 t))
meaning_is w (suc m) (Tac.idtac []) is st = refl
meaning_is w (suc m) (Tac.idtac (x ∷ ms)) is st = absurd cc
meaning_is w (suc m) (Tac.then_each a bs) is st = absurd cc
meaning_is w (suc m) (Tac.then_fill a bs c cs) is st = absurd cc
meaning_is w (suc m) (Tac.try a) is st = absurd cc
meaning_is w (suc m) (Tac.repeat a) is st = absurd cc
meaning_is w (suc m) (Tac.once a) is st = absurd cc
meaning_is w (suc m) (Tac.exactly_once a) is st = absurd cc
meaning_is w (suc m) (Tac.progress a) is st = absurd cc
meaning_is w (suc m) (Tac.do_times n a) is st = absurd cc
meaning_is w (suc m) (Tac.tryif a b c) is st = absurd cc
meaning_is w (suc m) (Tac.plus a b) is st = absurd cc
meaning_is w (suc m) (Tac.orelse a b) is st = absurd cc
meaning_is w (suc m) (Tac.first ts) is st = absurd cc
meaning_is w (suc m) (Tac.solve ts) is st = absurd cc
meaning_is w (suc m) (Tac.match k a cs) is st = absurd cc
meaning_is w (suc m) (Tac.fail a ms) is st = absurd cc
meaning_is w (suc m) (Tac.gfail a ms) is st = absurd cc
meaning_is w (suc m) (Tac.lambda ps a) is st = absurd cc
meaning_is w (suc m) (Tac.let_in r bs a) is st = absurd cc
meaning_is w (suc m) (Tac.fresh ps) is st = absurd cc
meaning_is w (suc m) (Tac.type_of t) is st = absurd cc
meaning_is w (suc m) (Tac.eval r t) is st = absurd cc
meaning_is w (suc m) (Tac.constr t) is st = absurd cc
meaning_is w (suc m) (Tac.context x t) is st = absurd cc
meaning_is w (suc m) (Tac.number n) is st = absurd cc
meaning_is w (suc m) (Tac.rule r) is st = absurd cc
meaning_is w (suc m) (Tac.call x as_) is st = absurd cc
meaning_is w (suc m) Tac.shelve is st = absurd cc
meaning_is w (suc m) Tac.revgoals is st = absurd cc
meaning_is w (suc m) (Tac.cycle r n) is st = absurd cc
meaning_is w (suc m) (Tac.swap i j) is st = absurd cc
