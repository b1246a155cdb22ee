-- A success at a place of the links.
use Rattle.std.proofs.Common.{◌≡◌, ◌≤◌, ◌<◌, ◌+◌, ◌-◌, ℕ, zero, suc, List, [], ◌∷◌, Some, length, slice_get, slice_index_or, refl, sym, ◌∙◌, subst, ap, arith}
use Rattle.lq_runs.specs.Runs.{Run}
use Rattle.lq_runs.specs.Machines.{Does}
use Rattle.lq_runs.specs.Stacks as Stacks
use Rattle.lq_runs.specs.Streams.{Work, has, turns, Shows}
use Rattle.lq_stream.specs.Stepping.{Telling}
use Rattle.lq_stream.specs.declared.stacks.Frame.{Frame}
use Rattle.lq_stream.specs.declared.stacks.Frame.TheVariants.{Then, Test, Only, Less, Alone}
use Rattle.lq_stream.specs.declared.stacks.Link.{Link}
use Rattle.lq_stream.specs.declared.turns.Doing.{Doing}
use Rattle.lq_stream.specs.Failing.{IsFailing}
use Rattle.lq_stream.specs.Reading.{frame_of, stack_at}
use Rattle.lq_stream.specs.Holding.{RestHas, IsPlain, AreLinks, Stands}
use Rattle.lq_stream.specs.Turning.{doing_turns}
use Rattle.lq_stream.proofs.Arenas.{stack_read, link_holds}

-- a continuation that is no exactly-once
pub plain_frame : {R : Type 0} (x : Frame R) → ((h : ℕ) → x ≡ Alone h → ⊥) → IsPlain x
plain_frame (Then r) n = tt
plain_frame (Test r h) n = tt
plain_frame (Only h) n = tt
plain_frame (Less h) n = tt
plain_frame (Alone h) n = n h refl

module _ {R : Type 0} (P : R → Type 0) where
  -- the link that was read
  link_at : (i : ℕ) (ls : List (Link R)) (l : Link R) → i < length ls → l ≡ slice_index_or ls i l → slice_get ls i ≡ Some l
  link_at i [] l h e = absurd (let j : i < 0 = h in omega arith)
  link_at zero (x ∷ ls) l h e = ap Some (let w : l ≡ x = e in sym w)
  link_at (suc i) (x ∷ ls) l h e = link_at i ls l (let j : suc i < suc (length ls) = h in omega arith) e

  pub place_holds : (ls : List (Link R)) (p : ℕ) (l : Link R) → AreLinks P 0 ls → 0 < p → p ≤ length ls → l ≡ slice_index_or ls (p - 1) l → (l.below ≤ length ls) × RestHas P l.frame
  place_holds ls p l a s h e =
      let r : (l.below ≤ 0 + (p - 1)) × RestHas P l.frame = link_holds P 0 ls (p - 1) l a (link_at (p - 1) ls l (omega arith) e) in
      let u : l.below ≤ 0 + (p - 1) = r.0 in
      (omega arith, r.1)

  -- the continuations at a place: its link's, and those at the place below it
  pub place_read : {R2 : Type 0} (rest : R → R2) (ls : List (Link R)) (p : ℕ) (l : Link R) (x : Frame R) → AreLinks P 0 ls → 0 < p → p ≤ length ls → l ≡ slice_index_or ls (p - 1) l →
      l.frame ≡ x → stack_at rest ls p ≡ frame_of rest x ∷ stack_at rest ls l.below
  place_read rest ls p l x a s h e i =
      let n : p ≡ suc (p - 1) = omega arith in
      ap (stack_at rest ls) n ∙ stack_read rest P ls (p - 1) l a (link_at (p - 1) ls l (omega arith) e) ∙ ap (λ z. frame_of rest z ∷ stack_at rest ls l.below) i

module _ {A R V C K A2 R2 V2 C2 S M : Type 0} (rank : R2 → ℕ) (t : Telling A R V C K A2 R2 V2 C2 S) (d : Does M C2 S V2 A2 R2) (s : S)
    (ks ls : List (Stacks.Frame R2)) (hs gs : List (Stacks.Choice A2 R2 V2 C2 S)) (f : ℕ → Run M C2 S V2) where
  -- continuations that are read as others
  pub over_stack : (w : Work A2 R2 V2 C2) → ks ≡ ls → Shows rank d s w ks hs f → Shows rank d s w ls hs f
  over_stack w e q = subst (λ z. Shows rank d s w z hs f) e q

  pub over_alone : (x : Doing A V C) (v : V2) → ks ≡ ls → (Shows rank d s (has v) ls hs f → IsFailing x × Stands rank t d s x ls gs f) → Shows rank d s (has v) ks hs f → Stands rank t d s x ks gs f
  over_alone x v e r q = subst (λ z. Stands rank t d s x z gs f) (sym e) (r (over_stack (has v) e q)).1

module _ {A R V C K A2 R2 V2 C2 S M : Type 0} (rank : A2 → ℕ) (rest_rank : R2 → ℕ) (t : Telling A R V C K A2 R2 V2 C2 S) (d : Does M C2 S V2 A2 R2) (s : S)
    (ks ls : List (Stacks.Frame R2)) (hs gs : List (Stacks.Choice A2 R2 V2 C2 S)) (f : ℕ → Run M C2 S V2) where
  pub falls_alone : (x : Doing A V C) (v : V2) → ks ≡ ls →
      (Shows rest_rank d s (has v) ls hs f → doing_turns rank rest_rank t x ls gs < turns rank rest_rank (has v) ls hs) →
      Shows rest_rank d s (has v) ks hs f → doing_turns rank rest_rank t x ks gs < turns rank rest_rank (has v) ks hs
  falls_alone x v e r q =
      subst (λ z. doing_turns rank rest_rank t x z gs < turns rank rest_rank (has v) z hs) (sym e) (r (over_stack rest_rank t d s ks ls hs gs f (has v) e q))
