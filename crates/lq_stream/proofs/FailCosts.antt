-- Failures, on the newest choice of a stream: fewer turns are left.
use Rattle.std.proofs.Common.{◌≡◌, ◌<◌, ◌+◌, ℕ, suc, List, ◌∷◌, Some, sym, subst}
use Rattle.lq_runs.specs.Runs.{Run}
use Rattle.lq_runs.specs.Machines.{Does}
use Rattle.lq_runs.specs.Stacks as Stacks
use Rattle.lq_runs.specs.Streams.{fails, Shows, cost, work_cost, frames_cost, choices_cost, turns}
use Rattle.lq_runs.proofs.FailureLaws.{fails_caught, fails_looked}
use Rattle.lq_runs.proofs.CostLaws.{turns_taken, turns_caught, turns_looked, turns_past}
use Rattle.lq_stream.specs.Stepping.{Telling}
use Rattle.lq_stream.specs.declared.stacks.Link.{Link}
use Rattle.lq_stream.specs.declared.stacks.Choice.{Choice}
use Rattle.lq_stream.specs.declared.stacks.Choice.TheVariants.{Alternative, Otherwise, FirstSuccess}
use Rattle.lq_stream.specs.Reading.{stack_at, choice_of}

module _ {A R V C K A2 R2 V2 C2 S M : Type 0} (rank : A2 → ℕ) (rest_rank : R2 → ℕ) (t : Telling A R V C K A2 R2 V2 C2 S) (d : Does M C2 S V2 A2 R2) (s : S) (ls : List (Link R))
    (ks : List (Stacks.Frame R2)) (hs : List (Stacks.Choice A2 R2 V2 C2 S)) (f : ℕ → Run M C2 S V2) (x : Choice A V C K) (level : ℕ) (c : C2) where
  abbrev Before : Type 0
  Before = Shows rest_rank d s (fails level c) ks (choice_of t ls x ∷ hs) f

  -- no more than the turns of the failure
  abbrev Within : ℕ → List (Stacks.Frame R2) → Choice A V C K → Type 0
  Within n ls2 y = n + frames_cost rest_rank ls2 + choices_cost rank rest_rank hs < turns rank rest_rank (fails level c) ks (choice_of t ls y ∷ hs)

  as_choice : (y : Choice A V C K) → x ≡ y → Before → Shows rest_rank d s (fails level c) ks (choice_of t ls y ∷ hs) f
  as_choice y e q = subst (λ z. Shows rest_rank d s (fails level c) ks (choice_of t ls z ∷ hs) f) e q

  at_level : (n : ℕ) (y : Stacks.Choice A2 R2 V2 C2 S) → level ≡ n → Shows rest_rank d s (fails level c) ks (y ∷ hs) f → Shows rest_rank d s (fails n c) ks (y ∷ hs) f
  at_level n y e q = subst (λ z. Shows rest_rank d s (fails z c) ks (y ∷ hs) f) e q

  falls_as : (n : ℕ) (ls2 : List (Stacks.Frame R2)) (y : Choice A V C K) → x ≡ y → Within n ls2 y → Within n ls2 x
  falls_as n ls2 y e q = subst (Within n ls2) (sym e) q

  pub falls_past : Within 0 ks x
  unfolding work_cost
  falls_past = turns_past rank rest_rank ks hs (choice_of t ls x) level level c c

  pub falls_taken : (a : A) (m : K) (i : ℕ) → x ≡ Alternative a m i → Within (suc (cost (rank (t.code a)))) (stack_at t.rest ls i) x
  unfolding work_cost
  falls_taken a m i e =
      falls_as (suc (cost (rank (t.code a)))) (stack_at t.rest ls i) (Alternative a m i) e
      (turns_taken rank rest_rank ks hs (t.code a) (t.marked m) (stack_at t.rest ls i) level c)

  pub falls_caught : (a : A) (m : K) (i : ℕ) → x ≡ Otherwise a m i → level ≡ 0 → Before → Within (suc (cost (rank (t.code a)))) (stack_at t.rest ls i) x
  unfolding work_cost
  falls_caught a m i e z q =
      falls_as (suc (cost (rank (t.code a)))) (stack_at t.rest ls i) (Otherwise a m i) e
      (turns_caught rank rest_rank ks hs (t.code a) (t.marked m) (stack_at t.rest ls i) level c
      (fails_caught rest_rank d s ks f hs (t.code a) (t.marked m) (stack_at t.rest ls i) c (at_level 0 (choice_of t ls (Otherwise a m i)) z (as_choice (Otherwise a m i) e q))).1)

  pub falls_looked : (b : C) (m : K) (v : V) (i : ℕ) → x ≡ FirstSuccess b m v i → Before → Within 1 (stack_at t.rest ls i) x
  unfolding work_cost
  falls_looked b m v i e q =
      falls_as 1 (stack_at t.rest ls i) (FirstSuccess b m v i) e
      (turns_looked rank rest_rank ks hs (t.value v) (Some (t.marked m, t.value v)) (stack_at t.rest ls i) (t.cause b) level c
      (fails_looked rest_rank d s ks f hs (t.cause b) (t.marked m, t.value v) (stack_at t.rest ls i) level c (as_choice (FirstSuccess b m v i) e q)).1)
