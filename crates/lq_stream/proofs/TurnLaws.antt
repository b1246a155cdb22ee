-- The turns of a stream, over plain lists.
use Rattle.std.proofs.Common.{◌≡◌, ◌≤◌, ◌<◌, ℕ, List, [], ◌∷◌, ◌++◌, length, take, Result, Ok, Err, refl, sym, ◌∙◌, ap, subst, arith}
use Rattle.std.specs.Prelude.{IfOk}
use Rattle.lq_runs.specs.Runs.{Run, none}
use Rattle.lq_runs.specs.Machines.{Does, IsLawful, Falls, gives, out, first}
use Rattle.lq_runs.specs.Streams.{runs, moves, Shows, work_cost, turns}
use Rattle.lq_runs.proofs.StepLaws.{step_moves, step_out, step_falls}
use Rattle.lq_stream.specs.Stepping.{Telling, Knowing, ToldAlike, move_of}
use Rattle.lq_stream.specs.declared.moves.Move.{Move}
use Rattle.lq_stream.specs.declared.moves.StepFault.{StepFault}
use Rattle.lq_stream.specs.declared.stacks.Link.{Link}
use Rattle.lq_stream.specs.declared.stacks.Choice.{Choice}
use Rattle.lq_stream.specs.declared.turns.Doing.{Doing}
use Rattle.lq_stream.specs.declared.turns.Doing.TheVariants.{Run as Running, Look}
use Rattle.lq_stream.specs.declared.turns.Turn.{Turn}
use Rattle.lq_stream.specs.declared.turns.Turn.TheVariants.{GoesOn}
use Rattle.lq_stream.specs.Reading.{stack_at, choices_onto, choices_of}
use Rattle.lq_stream.specs.Holding.{AreLinks, AreChoices, HasFirst, Stands}
use Rattle.lq_stream.specs.Turning.{Scene, doing_turns, Works, Turns}
use Rattle.lq_stream.proofs.Later.{stack_alike, choices_alike}
use Rattle.lq_stream.proofs.Cutting.{stack_cut, choices_cut}

module _ {A R V C K A2 R2 V2 C2 S M : Type 0} (rank : A2 → ℕ) (rest_rank : R2 → ℕ) (d : Does M C2 S V2 A2 R2) where
  -- want of memory
  pub no_memory : (o n : Scene A R V C K A2 R2 V2 C2 S M) (x : Doing A V C) (p : ℕ) (e : StepFault) → e ≡ StepFault.NoMemory → Turns rank rest_rank d o x p n (Err e)
  no_memory o n x p e i = subst (λ z. Turns rank rest_rank d o x p n (Err z)) (sym i) (λ f w. (tt, tt))

  -- work of another name
  pub turns_as : (o n : Scene A R V C K A2 R2 V2 C2 S M) (x y : Doing A V C) (p : ℕ) (r : Result (Turn A V C) StepFault) → y ≡ x → Turns rank rest_rank d o x p n r → Turns rank rest_rank d o y p n r
  turns_as o n x y p r e q = subst (λ z. Turns rank rest_rank d o z p n r) (sym e) q

  -- a turn without ticks
  pub turns_of : (o n : Scene A R V C K A2 R2 V2 C2 S M) (x y : Doing A V C) (p : ℕ) (r : Result (Turn A V C) StepFault) → y ≡ x → IfOk r (λ z. Turns rank rest_rank d o x p n (Ok z)) →
      (r ≡ Err StepFault.StepsOut → ⊥) → Turns rank rest_rank d o y p n r
  turns_of o n x y p (Ok z) e h i = turns_as o n x y p (Ok z) e h
  turns_of o n x y p (Err StepFault.StepsOut) e h i = absurd (i refl)
  turns_of o n x y p (Err StepFault.NoMemory) e h i = λ f w. (tt, tt)

  -- where a look stands, there is a choice
  pub look_some : (o : Scene A R V C K A2 R2 V2 C2 S M) (y : Doing A V C) (p : ℕ) (f : ℕ → Run M C2 S V2) → y ≡ Look → Works rank rest_rank d o y p f → 0 < length o.choices
  unfolding choices_onto
  look_some o y p f e w = first_some o.told o.links o.choices (subst (λ z. Works rank rest_rank d o z p f) e w).2
    where
      first_some : (t : Telling A R V C K A2 R2 V2 C2 S) (ls : List (Link R)) (xs : List (Choice A V C K)) → HasFirst (choices_of t ls xs) → 0 < length xs
      first_some t ls [] h = absurd h
      first_some t ls (x ∷ xs) h = omega arith

  module _ (k : Knowing A R V C K) (t u : Telling A R V C K A2 R2 V2 C2 S) (alike : ToldAlike k t u) (ls : List (Link R)) (linked : AreLinks k.rest 0 ls) where
    -- the same links and choices, as a later machine tells them
    stack_later : (q : ℕ) → stack_at u.rest ls q ≡ stack_at t.rest ls q
    stack_later q = stack_alike k t u alike ls q linked

    choices_later : (m : ℕ) (xs : List (Choice A V C K)) → AreChoices k m xs → choices_of u ls xs ≡ choices_of t ls xs
    choices_later m xs p = choices_alike k t u alike m ls xs linked p

    -- work over them
    pub work_later : (s s2 : S) (m q : ℕ) (xs : List (Choice A V C K)) (y : Doing A V C) (f : ℕ → Run M C2 S V2) → AreChoices k m xs → s2 ≡ s →
        Stands rest_rank u d s y (stack_at t.rest ls q) (choices_of t ls xs) f → Stands rest_rank u d s2 y (stack_at u.rest ls q) (choices_of u ls xs) f
    work_later s s2 m q xs y f p e w =
        subst (λ z. Stands rest_rank u d z y (stack_at u.rest ls q) (choices_of u ls xs) f) (sym e)
        (subst (λ z. Stands rest_rank u d s y z (choices_of u ls xs) f) (sym (stack_later q)) (subst (λ z. Stands rest_rank u d s y (stack_at t.rest ls q) z f) (sym (choices_later m xs p)) w))

    pub turns_later : (m q : ℕ) (xs : List (Choice A V C K)) (y : Doing A V C) (b : ℕ) → AreChoices k m xs →
        doing_turns rank rest_rank u y (stack_at t.rest ls q) (choices_of t ls xs) < b → doing_turns rank rest_rank u y (stack_at u.rest ls q) (choices_of u ls xs) < b
    turns_later m q xs y b p w =
        subst (λ z. doing_turns rank rest_rank u y z (choices_of u ls xs) < b) (sym (stack_later q))
        (subst (λ z. doing_turns rank rest_rank u y (stack_at t.rest ls q) z < b) (sym (choices_later m xs p)) w)

  -- the step of a code
  module _ (ok : IsLawful d rank rest_rank) (t : Telling A R V C K A2 R2 V2 C2 S) (s : S) (ms : List M) (left : ℕ) (ls : List (Link R)) (xs : List (Choice A V C K)) (place : ℕ) (a : A)
      (s2 : S) (ms2 : List M) (left2 : ℕ) where
    abbrev before : Scene A R V C K A2 R2 V2 C2 S M
    before = record { told = t; state = s; messages = ms; left = left; links = ls; choices = xs }

    -- the budget is spent
    abbrev Spent : Type 0
    Spent = (spoken : List M) × (first left (d.steps left (t.code a) s) ≡ out spoken) × (ms2 ≡ ms ++ spoken) × (left2 ≡ 0)

    pub step_ends : (u : Telling A R V C K A2 R2 V2 C2 S) (ls2 : List (Link R)) (xs2 : List (Choice A V C K)) (e : StepFault) → (◌≡◌ {A = Result (Move A R V C) StepFault} (Err e) (Err StepFault.StepsOut) → Spent) →
        Turns rank rest_rank d before (Running a) place (record { told = u; state = s2; messages = ms2; left = left2; links = ls2; choices = xs2 }) (Err e)
    step_ends u ls2 xs2 StepFault.StepsOut h = λ f w.
        let p : Spent = h refl in (
          (record { spoken = p.0; added = p.2; same = step_out d rank rest_rank ok s (t.code a) (stack_at t.rest ls place) (choices_of t ls xs) f left p.0 p.1 w }, p.3),
          tt,
        )
    step_ends u ls2 xs2 StepFault.NoMemory h = λ f w. (tt, tt)

    pub step_exits : (u : Telling A R V C K A2 R2 V2 C2 S) (ls2 : List (Link R)) (xs2 : List (Choice A V C K)) (r : Result (Turn A V C) StepFault) (e : StepFault) →
        ((y : StepFault) × (r ≡ Err y) × (y ≡ e)) → (◌≡◌ {A = Result (Move A R V C) StepFault} (Err e) (Err StepFault.StepsOut) → Spent) →
        Turns rank rest_rank d before (Running a) place (record { told = u; state = s2; messages = ms2; left = left2; links = ls2; choices = xs2 }) r
    step_exits u ls2 xs2 r e p h =
        subst (λ z. Turns rank rest_rank d before (Running a) place (record { told = u; state = s2; messages = ms2; left = left2; links = ls2; choices = xs2 }) z) (sym (p.1 ∙ ap Err p.2))
        (step_ends u ls2 xs2 e h)

    module _ (k : Knowing A R V C K) (u : Telling A R V C K A2 R2 V2 C2 S) (alike : ToldAlike k t u) (n : ℕ) (inside : n ≤ length ls) (reach : place ≤ n) (lc : List (Link R)) (is : lc ≡ take n ls)
        (linked : AreLinks k.rest 0 lc) (chosen : AreChoices k n xs) (next : Move A R V C) (y : Doing A V C) (q : ℕ) (ls2 : List (Link R)) (xs2 : List (Choice A V C K)) where
      stack_same : stack_at u.rest lc place ≡ stack_at t.rest ls place
      stack_same = stack_alike k t u alike lc place linked ∙ ap (λ z. stack_at t.rest z place) is ∙ stack_cut t.rest ls n place inside reach

      choices_same : choices_of u lc xs ≡ choices_of t ls xs
      choices_same = choices_alike k t u alike n lc xs linked chosen ∙ ap (λ z. choices_of t z xs) is ∙ choices_cut k t ls n inside xs chosen

      abbrev Moved : Type 0
      Moved = (spoken : List M) × (first left (d.steps left (t.code a) s) ≡ gives left2 spoken s2 (move_of u next) none) × (ms2 ≡ ms ++ spoken)

      as_cut : (z : S) (f : ℕ → Run M C2 S V2) → Shows rest_rank d z (moves (move_of u next)) (stack_at t.rest ls place) (choices_of t ls xs) f →
          Shows rest_rank d z (moves (move_of u next)) (stack_at u.rest lc place) (choices_of u lc xs) f
      as_cut z f h =
          subst (λ l. Shows rest_rank d z (moves (move_of u next)) l (choices_of u lc xs) f) (sym stack_same)
          (subst (λ l. Shows rest_rank d z (moves (move_of u next)) (stack_at t.rest ls place) l f) (sym choices_same) h)

      pub step_goes : (d2 : Does M C2 S V2 A2 R2) → d2 ≡ d → Moved →
          ((f : ℕ → Run M C2 S V2) → Shows rest_rank d2 s2 (moves (move_of u next)) (stack_at u.rest lc place) (choices_of u lc xs) f →
          Stands rest_rank u d2 s2 y (stack_at u.rest ls2 q) (choices_of u ls2 xs2) f) →
          ((b : A2) → Falls rank rest_rank (rank b) (move_of u next) → doing_turns rank rest_rank u y (stack_at u.rest ls2 q) (choices_of u ls2 xs2)
          < turns rank rest_rank (runs b) (stack_at u.rest lc place) (choices_of u lc xs)) →
          Turns rank rest_rank d before (Running a) place (record { told = u; state = s2; messages = ms2; left = left2; links = ls2; choices = xs2 }) (Ok (GoesOn y q))
      unfolding work_cost
      step_goes d2 v m stands less = λ f w.
          let r : _ = step_moves d rank rest_rank ok s (t.code a) (stack_at t.rest ls place) (choices_of t ls xs) f left left2 m.0 s2 (move_of u next) m.1 w in (
            (
              r.0,
              subst (λ z. Stands rest_rank u z s2 y (stack_at u.rest ls2 q) (choices_of u ls2 xs2) r.0) v
                  (stands r.0 (subst (λ z. Shows rest_rank z s2 (moves (move_of u next)) (stack_at u.rest lc place) (choices_of u lc xs) r.0) (sym v) (as_cut s2 r.0 r.1))),
              record { spoken = m.0; added = m.2; same = r.2 },
            ),
            λ e.
                let i : Falls rank rest_rank (rank (t.code a)) (move_of u next) =
                step_falls d rank rest_rank ok left (t.code a) s s2 m.0 (move_of u next) (m.1 ∙ ap (λ z. gives z m.0 s2 (move_of u next) none) e) in
                subst (λ z. doing_turns rank rest_rank u y (stack_at u.rest ls2 q) (choices_of u ls2 xs2) < turns rank rest_rank (runs (t.code a)) z (choices_of t ls xs)) stack_same
                (subst (λ z. doing_turns rank rest_rank u y (stack_at u.rest ls2 q) (choices_of u ls2 xs2) < turns rank rest_rank (runs (t.code a)) (stack_at u.rest lc place) z) choices_same
                (less (t.code a) i)),
          )
