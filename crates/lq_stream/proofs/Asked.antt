-- What a stream is asked for, and what it answers, over plain lists.
use Rattle.std.proofs.Common.{◌≡◌, ℕ, List, [], Option, Some, None, Result, Ok, Err, refl, sym, subst, le_refl}
use Rattle.std.specs.Prelude.{IfOk, IfNone}
use Rattle.lq_runs.specs.Runs.{Run, resume}
use Rattle.lq_runs.specs.Machines.{Does, tree}
use Rattle.lq_runs.specs.Stacks as Stacks
use Rattle.lq_runs.specs.Streams.{runs, fails, run_of, frames_cost, Shows}
use Rattle.lq_runs.proofs.RunLaws.{over_none}
use Rattle.lq_runs.proofs.StackLaws.{resumed}
use Rattle.lq_stream.specs.Stepping.{Telling, Knowing}
use Rattle.lq_stream.specs.declared.stacks.StreamFault.{StreamFault}
use Rattle.lq_stream.specs.declared.stacks.Answer.{Answer}
use Rattle.lq_stream.specs.declared.stacks.Link.{Link}
use Rattle.lq_stream.specs.declared.stacks.Choice.{Choice}
use Rattle.lq_stream.specs.Reading.{stack_at, choices_onto, choices_of, asked}
use Rattle.lq_stream.specs.Holding.{HasDoing, Stands}
use Rattle.lq_stream.specs.Places.{Held}
use Rattle.lq_stream.specs.Turning.{Gives, Spends, Scene, EndsAs}
use Rattle.lq_stream.specs.Asking.{IsReady, doing_for}
use Rattle.lq_stream.proofs.Cutting.{stack_none}

module _ {A R V C K A2 R2 V2 C2 S M : Type 0} (rest_rank : R2 → ℕ) (d : Does M C2 S V2 A2 R2) (t : Telling A R V C K A2 R2 V2 C2 S) (s : S) (ls : List (Link R)) (xs : List (Choice A V C K)) where
  -- a code alone
  code_shows : (a : A2) → Shows rest_rank d s (runs a) [] [] (λ n. tree d n a s)
  unfolding run_of Stacks.whole Stacks.around Stacks.bound Stacks.beside_it
  code_shows a = record { bs = []; ps = []; fits = Stacks.bottom; passive = tt; framed = refl; same = λ n. whole_none n }
    where
      whole_none : (n : ℕ) → tree d n a s ≡ Stacks.whole d n [] Stacks.bottom (tree d n a s)
      whole_none n = sym (over_none (tree d n a s))

  -- a failure over the alternatives
  failure_shows : (hs : List (Stacks.Choice A2 R2 V2 C2 S)) (fits : Stacks.Fits A2 R2 V2 C2 S [] hs) (k : ℕ) (c : C2) → Shows rest_rank d s (fails k c) [] hs (λ n. resume (Stacks.held d n hs) k c)
  unfolding run_of
  failure_shows hs fits k c =
      record { bs = []; ps = []; fits = fits; passive = tt; framed = le_refl (frames_cost rest_rank []); same = λ n. sym (resumed d n fits k c) }

  -- what is asked for is the work at hand
  pub starts : (k : Knowing A R V C K) (fresh : Option A) (ts : List ℕ) (l : ℕ) (c : C) → IsReady k t (record { fresh = fresh; links = ls; choices = xs; tops = ts }) →
      Stands rest_rank t d s (doing_for fresh l c) (stack_at t.rest ls 0) (choices_of t ls xs) (asked d t.code s fresh (λ m. Stacks.held d m (choices_of t ls xs)) l (t.cause c))
  unfolding choices_onto
  starts k (Some a) ts l c q =
      subst (λ z. Shows rest_rank d s (runs (t.code a)) z (choices_of t ls xs) (λ n. tree d n (t.code a) s)) (sym (stack_none t.rest ls))
      (subst (λ z. Shows rest_rank d s (runs (t.code a)) [] (choices_of t ls z) (λ n. tree d n (t.code a) s)) (sym q.alone) (code_shows (t.code a)))
  starts k None ts l c q =
      subst (λ z. Shows rest_rank d s (fails l (t.cause c)) z (choices_of t ls xs) (λ n. resume (Stacks.held d n (choices_of t ls xs)) l (t.cause c))) (sym (stack_none t.rest ls))
      (failure_shows (choices_of t ls xs) q.fits l (t.cause c))

  pub starts_known : (k : Knowing A R V C K) (fresh : Option A) (ts : List ℕ) (l : ℕ) (c : C) → IsReady k t (record { fresh = fresh; links = ls; choices = xs; tops = ts }) → IfNone fresh (k.cause c) → HasDoing k (doing_for {V = V} fresh l c)
  starts_known k (Some a) ts l c q h = q.code
  starts_known k None ts l c q h = h

module _ {A R V C K A2 R2 V2 C2 S M : Type 0} (rank : A2 → ℕ) (rest_rank : R2 → ℕ) (d d2 : Does M C2 S V2 A2 R2) (same : d2 ≡ d) (o n : Scene A R V C K A2 R2 V2 C2 S M) (f : ℕ → Run M C2 S V2) where
  pub answer_in : (r : Result (Answer V C) StreamFault) → EndsAs rank rest_rank d o n f r →
      IfOk r (Gives n.told.value n.told.cause o.left o.messages f n.left n.messages n.state (λ m. Stacks.held d2 m (choices_of n.told n.links n.choices)))
  answer_in (Ok a) h = subst (λ z. Gives n.told.value n.told.cause o.left o.messages f n.left n.messages n.state (λ m. Stacks.held z m (choices_of n.told n.links n.choices)) a) (sym same) h.0
  answer_in (Err e) h = tt

  pub fits_in : (r : Result (Answer V C) StreamFault) → EndsAs rank rest_rank d o n f r → IfOk r (λ a. Stacks.Fits A2 R2 V2 C2 S [] (choices_of n.told n.links n.choices))
  fits_in (Ok a) h = h.1
  fits_in (Err e) h = tt

  pub spent_in : (r : Result (Answer V C) StreamFault) → EndsAs rank rest_rank d o n f r → r ≡ Err StreamFault.StepsOut → Spends o.left o.messages f n.messages × (n.left ≡ 0)
  spent_in r h e = subst (λ z. EndsAs rank rest_rank d o n f z) e h

-- a stream after its answer
pub ready_in : {A R V C K A2 R2 V2 C2 S : Type 0} (k : Knowing A R V C K) (t : Telling A R V C K A2 R2 V2 C2 S) (fresh : Option A) (ls : List (Link R)) (xs : List (Choice A V C K)) (ts : List ℕ)
    (r : Result (Answer V C) StreamFault) → fresh ≡ None → IfOk r (λ a. Held k ls xs ts) → IfOk r (λ a. Stacks.Fits A2 R2 V2 C2 S [] (choices_of t ls xs)) → IfOk r (λ a. IsReady k t (record { fresh = fresh; links = ls; choices = xs; tops = ts }))
ready_in k t fresh ls xs ts (Ok a) e h q = subst (λ z. IsReady k t (record { fresh = z; links = ls; choices = xs; tops = ts })) (sym e) (record { code = tt; alone = tt; held = h; fits = q })
ready_in k t fresh ls xs ts (Err a) e h q = tt

-- a stream that is new
pub ready_new : {A R V C K A2 R2 V2 C2 S : Type 0} (k : Knowing A R V C K) (t : Telling A R V C K A2 R2 V2 C2 S) (a : A) (ls : List (Link R)) (xs : List (Choice A V C K)) (ts : List ℕ) →
    k.code a → ls ≡ [] → xs ≡ [] → ts ≡ [] → IsReady k t (record { fresh = Some a; links = ls; choices = xs; tops = ts })
unfolding choices_onto
ready_new k t a ls xs ts h e i o =
    subst (λ z. IsReady k t (record { fresh = Some a; links = z; choices = xs; tops = ts })) (sym e)
    (subst (λ z. IsReady k t (record { fresh = Some a; links = []; choices = z; tops = ts })) (sym i)
    (subst (λ z. IsReady k t (record { fresh = Some a; links = []; choices = []; tops = z })) (sym o)
    (record { code = h; alone = refl; held = record { linked = tt; chosen = tt; topped = le_refl 0 }; fits = Stacks.bottom })))
