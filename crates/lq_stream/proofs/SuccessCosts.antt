-- Successes, on the nearest continuation of a stream: fewer turns are left.
use Rattle.std.proofs.Common.{◌≡◌, ◌<◌, ◌+◌, ℕ, suc, List, ◌∷◌, refl, sym, ◌∙◌, subst, ap, take, slice_get, slice_set, Some, arith}
use Rattle.lq_runs.specs.Stacks as Stacks
use Rattle.lq_runs.specs.Stacks.{switched, down, kept}
use Rattle.lq_runs.specs.Machines.{Does}
use Rattle.lq_runs.specs.Streams.{has, cost, work_cost, frame_cost, frames_cost, choices_cost, turns}
use Rattle.lq_runs.proofs.CostLaws.{turns_rest, turns_test, turns_less, turns_only, turns_first}
use Rattle.lq_stream.specs.Stepping.{Telling}
use Rattle.lq_stream.specs.declared.stacks.Frame.{Frame}
use Rattle.lq_stream.specs.declared.stacks.Frame.TheVariants.{Then, Test, Only, Less}
use Rattle.lq_stream.specs.declared.stacks.Link.{Link}
use Rattle.lq_stream.specs.declared.stacks.Choice.{Choice}
use Rattle.lq_stream.specs.declared.stacks.Choice.TheVariants.{NoSuccess, FirstSuccess}
use Rattle.lq_stream.specs.Reading.{frame_of, choices_of}
use Rattle.lq_stream.specs.Holding.{offs}
use Rattle.lq_stream.proofs.Switching.{switched_is, down_is}
use Rattle.lq_stream.proofs.Keeping.{kept_is}

module _ {A R V C K A2 R2 V2 C2 S M : Type 0} (rank : A2 → ℕ) (rest_rank : R2 → ℕ) (t : Telling A R V C K A2 R2 V2 C2 S) (d : Does M C2 S V2 A2 R2) (ls : List (Link R))
    (ks : List (Stacks.Frame R2)) (xs ys : List (Choice A V C K)) (x : Frame R) (v : V2) where
  abbrev Within : ℕ → Frame R → List (Stacks.Choice A2 R2 V2 C2 S) → Type 0
  Within n y hs = n + frames_cost rest_rank ks + choices_cost rank rest_rank hs < turns rank rest_rank (has v) (frame_of t.rest y ∷ ks) (choices_of t ls xs)

  falls_as : (n m : ℕ) (y : Frame R) (hs gs : List (Stacks.Choice A2 R2 V2 C2 S)) → n ≡ m → x ≡ y → gs ≡ hs → Within m y hs → Within n x gs
  falls_as n m y hs gs o e i q = subst (λ z. Within z x gs) (sym o) (subst (λ z. Within m z gs) (sym e) (subst (Within m y) (sym i) q))

  pub falls_then : (r : R) (a : A2) → x ≡ Then r → a ≡ d.enters (t.rest r) v → rank (d.enters (t.rest r) v) < rest_rank (t.rest r) → Within (suc (cost (rank a))) x (choices_of t ls xs)
  unfolding work_cost
  falls_then r a e i h =
      falls_as (suc (cost (rank a))) (suc (cost (rank (d.enters (t.rest r) v)))) (Then r) (choices_of t ls xs) (choices_of t ls xs) (ap (λ z. suc (cost (rank z))) i) e refl
      (turns_rest rank rest_rank ks (choices_of t ls xs) v (t.rest r) (d.enters (t.rest r) v) h)

  offs_as : (h : ℕ) → ys ≡ offs h xs → choices_of t ls ys ≡ switched h (choices_of t ls xs)
  offs_as h o = ap (choices_of t ls) o ∙ sym (switched_is t ls h xs)

  pub falls_test : (r : R) (h : ℕ) (a : A2) → x ≡ Test r h → a ≡ d.enters (t.rest r) v → ys ≡ offs h xs → rank (d.enters (t.rest r) v) < rest_rank (t.rest r) →
      Within (suc (cost (rank a))) x (choices_of t ls ys)
  unfolding work_cost
  falls_test r h a e i o j =
      falls_as (suc (cost (rank a))) (suc (cost (rank (d.enters (t.rest r) v)))) (Test r h) (switched h (choices_of t ls xs)) (choices_of t ls ys) (ap (λ z. suc (cost (rank z))) i) e (offs_as h o)
      (turns_test rank rest_rank ks (choices_of t ls xs) v (t.rest r) h (d.enters (t.rest r) v) j)

  pub falls_less : (h : ℕ) → x ≡ Less h → ys ≡ offs h xs → Within 1 x (choices_of t ls ys)
  unfolding work_cost
  falls_less h e o = falls_as 1 1 (Less h) (switched h (choices_of t ls xs)) (choices_of t ls ys) refl e (offs_as h o) (turns_less rank rest_rank ks (choices_of t ls xs) v h)

  downs_as : (h : ℕ) → ys ≡ take h xs → choices_of t ls ys ≡ down h (choices_of t ls xs)
  downs_as h o = ap (choices_of t ls) o ∙ sym (down_is t ls h xs)

  pub falls_only : (h : ℕ) → x ≡ Only h → ys ≡ take h xs → Within 1 x (choices_of t ls ys)
  unfolding work_cost
  falls_only h e o = falls_as 1 1 (Only h) (down h (choices_of t ls xs)) (choices_of t ls ys) refl e (downs_as h o) (turns_only rank rest_rank ks (choices_of t ls xs) v h)

module _ {A R V C K A2 R2 V2 C2 S : Type 0} (rank : A2 → ℕ) (rest_rank : R2 → ℕ) (t : Telling A R V C K A2 R2 V2 C2 S) (ls : List (Link R))
    (ks : List (Stacks.Frame R2)) (xs ys : List (Choice A V C K)) (h : ℕ) (v : V) where
  -- a failure at the place of the exactly-once takes fewer turns than the success there
  abbrev Below : List (Stacks.Choice A2 R2 V2 C2 S) → Type 0
  Below hs = 0 + frames_cost rest_rank (Stacks.alone h ∷ ks) + choices_cost rank rest_rank hs < turns rank rest_rank (has (t.value v)) (Stacks.alone h ∷ ks) (choices_of t ls xs)

  pub falls_first : (b : C) (i : ℕ) (m : K) → slice_get xs h ≡ Some (NoSuccess b i) → ys ≡ slice_set xs h (FirstSuccess b m v i) → Below (choices_of t ls ys)
  unfolding work_cost
  falls_first b i m e o =
      subst Below (kept_is t ls h xs b i m v e ∙ ap (choices_of t ls) (sym o))
      (turns_first rank rest_rank ks (choices_of t ls xs) (t.marked m) (t.value v) (t.cause b) h)

  pub falls_second : ys ≡ take h xs → Below (choices_of t ls ys)
  unfolding work_cost frames_cost frame_cost
  falls_second o =
      subst Below (down_is t ls h xs ∙ ap (choices_of t ls) (sym o))
      (let i : 1 + frames_cost rest_rank ks + choices_cost rank rest_rank (down h (choices_of t ls xs)) < 1 + (1 + frames_cost rest_rank ks) + choices_cost rank rest_rank (choices_of t ls xs) =
      turns_only rank rest_rank ks (choices_of t ls xs) (t.value v) h in
      let j : 0 + (1 + frames_cost rest_rank ks) + choices_cost rank rest_rank (down h (choices_of t ls xs)) < 1 + (1 + frames_cost rest_rank ks) + choices_cost rank rest_rank (choices_of t ls xs) = omega arith in
      j)
