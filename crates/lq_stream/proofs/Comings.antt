-- Successes and failures of a stream, over plain lists: an answer, or work that goes on.
use Rattle.std.proofs.Common.{◌≡◌, ◌<◌, ℕ, List, [], ◌∷◌, ◌++◌, Ok, refl, sym, ◌∙◌, ap, subst, append-nil}
use Rattle.lq_runs.specs.Runs.{Run}
use Rattle.lq_runs.specs.Machines.{Does, first, seen}
use Rattle.lq_runs.specs.Stacks as Stacks
use Rattle.lq_runs.specs.Streams.{has, fails, Shows, work_cost, turns}
use Rattle.lq_runs.proofs.SuccessLaws.{has_answer}
use Rattle.lq_runs.proofs.FailureLaws.{fails_end}
use Rattle.lq_stream.specs.Stepping.{Telling, Knowing, ToldAlike}
use Rattle.lq_stream.specs.declared.stacks.Answer.TheVariants.{Success as Succeeds, End}
use Rattle.lq_stream.specs.declared.stacks.Link.{Link}
use Rattle.lq_stream.specs.declared.stacks.Choice.{Choice}
use Rattle.lq_stream.specs.declared.turns.Doing.{Doing}
use Rattle.lq_stream.specs.declared.turns.Doing.TheVariants.{Run as Running, Success, Failure, Look}
use Rattle.lq_stream.specs.declared.turns.Turn.TheVariants.{GoesOn, Answered}
use Rattle.lq_stream.specs.Reading.{stack_at, choice_of, choices_onto, choices_of}
use Rattle.lq_stream.specs.Holding.{AreLinks, AreChoices, HasDoing, HasFirst, Stands}
use Rattle.lq_stream.specs.Turning.{Scene, doing_turns, Turns}
use Rattle.lq_stream.proofs.Later.{stands_alike}
use Rattle.lq_stream.proofs.Cutting.{stack_none}
use Rattle.lq_stream.proofs.Choosing.{choices_pushed}
use Rattle.lq_stream.proofs.Chaining.{goes_same}
use Rattle.lq_stream.proofs.TurnLaws.{work_later, turns_later}

module _ {A R V C K A2 R2 V2 C2 S M : Type 0} (rank : A2 → ℕ) (rest_rank : R2 → ℕ) (d : Does M C2 S V2 A2 R2) (t : Telling A R V C K A2 R2 V2 C2 S) (s : S) (ms : List M) (left : ℕ)
    (ls : List (Link R)) (xs : List (Choice A V C K)) (place : ℕ) where
  abbrev before : Scene A R V C K A2 R2 V2 C2 S M
  before = record { told = t; state = s; messages = ms; left = left; links = ls; choices = xs }

  -- a success with nothing to go on with
  pub answers : (v : V) → place ≡ 0 → Turns rank rest_rank d before (Success v) place before (Ok (Answered (Succeeds v)))
  unfolding first
  answers v e = λ f w.
      let i : stack_at t.rest ls place ≡ [] = ap (stack_at t.rest ls) e ∙ stack_none t.rest ls in
      let r : _ = has_answer rest_rank d s (t.value v) (choices_of t ls xs) f (subst (λ z. Shows rest_rank d s (has (t.value v)) z (choices_of t ls xs) f) i w) in (
        (record { spoken = []; added = sym (append-nil ms); same = (0, λ n h. ap (seen left) (r.1 n)) }, r.0),
        tt,
      )

  -- a failure without a choice
  pub finishes : (l : ℕ) (c : C) (xs2 : List (Choice A V C K)) → xs ≡ [] → xs2 ≡ [] →
      Turns rank rest_rank d before (Failure l c) place (record { told = t; state = s; messages = ms; left = left; links = ls; choices = xs2 }) (Ok (Answered (End l c)))
  unfolding first choices_onto
  finishes l c xs2 e i = λ f w.
      let o : choices_of t ls xs ≡ [] = ap (choices_of t ls) e in
      let j : choices_of t ls xs2 ≡ [] = ap (choices_of t ls) i in
      let r : _ = fails_end rest_rank d s (stack_at t.rest ls place) f l (t.cause c) (subst (λ z. Shows rest_rank d s (fails l (t.cause c)) (stack_at t.rest ls place) z f) o w) in (
        (
          record { spoken = []; added = sym (append-nil ms); same = (0, λ n h. ap (seen left) (r n)) },
          subst (λ z. Stacks.Fits A2 R2 V2 C2 S [] z) (sym j) Stacks.bottom,
        ),
        tt,
      )

  -- to a later machine
  module _ (k : Knowing A R V C K) (u : Telling A R V C K A2 R2 V2 C2 S) (alike : ToldAlike k t u) (linked : AreLinks k.rest 0 ls) (m : ℕ) (xs2 : List (Choice A V C K)) (chosen : AreChoices k m xs2)
      (s2 : S) (ms2 : List M) (said : ms2 ≡ ms) (y : Doing A V C) (q : ℕ) where
    abbrev after : Scene A R V C K A2 R2 V2 C2 S M
    after = record { told = u; state = s2; messages = ms2; left = left; links = ls; choices = xs2 }

    pub success_goes : (v : V) → s2 ≡ s →
        ((f : ℕ → Run M C2 S V2) → Shows rest_rank d s (has (t.value v)) (stack_at t.rest ls place) (choices_of t ls xs) f →
        Stands rest_rank u d s y (stack_at t.rest ls q) (choices_of t ls xs2) f) →
        ((f : ℕ → Run M C2 S V2) → Shows rest_rank d s (has (t.value v)) (stack_at t.rest ls place) (choices_of t ls xs) f →
        doing_turns rank rest_rank u y (stack_at t.rest ls q) (choices_of t ls xs2) < turns rank rest_rank (has (t.value v)) (stack_at t.rest ls place) (choices_of t ls xs)) →
        Turns rank rest_rank d before (Success v) place after (Ok (GoesOn y q))
    unfolding work_cost
    success_goes v e stands less = λ f w. (
      (f, work_later rank rest_rank d k t u alike ls linked s s2 m q xs2 y f chosen e (stands f w), goes_same left ms ms2 f said),
      λ i. turns_later rank rest_rank d k t u alike ls linked m q xs2 y (turns rank rest_rank (has (t.value v)) (stack_at t.rest ls place) (choices_of t ls xs)) chosen (less f w),
    )

    -- the newest choice
    module _ (x : Choice A V C K) (popped : xs ≡ xs2 ++ x ∷ []) (known : HasDoing k y) where
      top_is : choices_of t ls xs ≡ choice_of t ls x ∷ choices_of t ls xs2
      top_is = ap (choices_of t ls) popped ∙ choices_pushed t ls [] xs2 x

      goes_later : (f : ℕ → Run M C2 S V2) → Stands rest_rank t d s2 y (stack_at t.rest ls q) (choices_of t ls xs2) f → Stands rest_rank u d s2 y (stack_at u.rest ls q) (choices_of u ls xs2) f
      goes_later f w =
          work_later rank rest_rank d k t u alike ls linked s2 s2 m q xs2 y f chosen refl
          (stands_alike k t u alike rest_rank d s2 y (stack_at t.rest ls q) (choices_of t ls xs2) f known w)

      cost_alike : doing_turns rank rest_rank u y (stack_at t.rest ls q) (choices_of t ls xs2) ≡ doing_turns rank rest_rank t y (stack_at t.rest ls q) (choices_of t ls xs2)
      cost_alike = cost_of y known
        where
          cost_of : (z : Doing A V C) → HasDoing k z → doing_turns rank rest_rank u z (stack_at t.rest ls q) (choices_of t ls xs2) ≡ doing_turns rank rest_rank t z (stack_at t.rest ls q) (choices_of t ls xs2)
          cost_of (Running a) h = ap (λ z. doing_turns rank rest_rank (record { code = λ b. z; rest = t.rest; value = t.value; cause = t.cause; marked = t.marked }) (Running a) (stack_at t.rest ls q) (choices_of t ls xs2)) (alike.code a h)
          cost_of (Success v) h = refl
          cost_of (Failure n c) h = refl
          cost_of Look h = refl

      less_later : (b : ℕ) → doing_turns rank rest_rank t y (stack_at t.rest ls q) (choices_of t ls xs2) < b → doing_turns rank rest_rank u y (stack_at u.rest ls q) (choices_of u ls xs2) < b
      less_later b h = turns_later rank rest_rank d k t u alike ls linked m q xs2 y b chosen (subst (λ z. z < b) (sym cost_alike) h)

      pub failure_goes : (l : ℕ) (c : C) →
          ((f : ℕ → Run M C2 S V2) → Shows rest_rank d s (fails l (t.cause c)) (stack_at t.rest ls place) (choice_of t ls x ∷ choices_of t ls xs2) f →
          Stands rest_rank t d s2 y (stack_at t.rest ls q) (choices_of t ls xs2) f) →
          ((f : ℕ → Run M C2 S V2) → Shows rest_rank d s (fails l (t.cause c)) (stack_at t.rest ls place) (choice_of t ls x ∷ choices_of t ls xs2) f →
          doing_turns rank rest_rank t y (stack_at t.rest ls q) (choices_of t ls xs2)
          < turns rank rest_rank (fails l (t.cause c)) (stack_at t.rest ls place) (choice_of t ls x ∷ choices_of t ls xs2)) →
          Turns rank rest_rank d before (Failure l c) place after (Ok (GoesOn y q))
      unfolding work_cost
      failure_goes l c stands less = λ f w.
          let w2 : Shows rest_rank d s (fails l (t.cause c)) (stack_at t.rest ls place) (choice_of t ls x ∷ choices_of t ls xs2) f =
          subst (λ z. Shows rest_rank d s (fails l (t.cause c)) (stack_at t.rest ls place) z f) top_is w in (
            (f, goes_later f (stands f w2), goes_same left ms ms2 f said),
            λ i. subst (λ z. doing_turns rank rest_rank u y (stack_at u.rest ls q) (choices_of u ls xs2) < turns rank rest_rank (fails l (t.cause c)) (stack_at t.rest ls place) z) (sym top_is)
                (less_later (turns rank rest_rank (fails l (t.cause c)) (stack_at t.rest ls place) (choice_of t ls x ∷ choices_of t ls xs2)) (less f w2)),
          )

      pub look_goes :
          ((f : ℕ → Run M C2 S V2) (c : C2) → Shows rest_rank d s (fails 0 c) (stack_at t.rest ls place) (choice_of t ls x ∷ choices_of t ls xs2) f → HasFirst (choice_of t ls x ∷ choices_of t ls xs2) →
          Stands rest_rank t d s2 y (stack_at t.rest ls q) (choices_of t ls xs2) f) →
          ((f : ℕ → Run M C2 S V2) (c : C2) → Shows rest_rank d s (fails 0 c) (stack_at t.rest ls place) (choice_of t ls x ∷ choices_of t ls xs2) f →
          doing_turns rank rest_rank t y (stack_at t.rest ls q) (choices_of t ls xs2)
          < turns rank rest_rank (fails 0 c) (stack_at t.rest ls place) (choice_of t ls x ∷ choices_of t ls xs2)) →
          Turns rank rest_rank d before Look place after (Ok (GoesOn y q))
      unfolding work_cost
      look_goes stands less = λ f w.
          let w2 : Shows rest_rank d s (fails 0 w.0) (stack_at t.rest ls place) (choice_of t ls x ∷ choices_of t ls xs2) f =
          subst (λ z. Shows rest_rank d s (fails 0 w.0) (stack_at t.rest ls place) z f) top_is w.1 in (
            (f, goes_later f (stands f w.0 w2 (subst (λ z. HasFirst z) top_is w.2)), goes_same left ms ms2 f said),
            λ i. subst (λ z. doing_turns rank rest_rank u y (stack_at u.rest ls q) (choices_of u ls xs2) < turns rank rest_rank (fails 0 w.0) (stack_at t.rest ls place) z) (sym top_is)
                (less_later (turns rank rest_rank (fails 0 w.0) (stack_at t.rest ls place) (choice_of t ls x ∷ choices_of t ls xs2)) (less f w.0 w2)),
          )
