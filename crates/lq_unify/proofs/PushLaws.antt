-- One more that waits, by what a push says.
use Rattle.std.proofs.Common.{◌≡◌, ◌≤◌, ◌+◌, sym, ap, arith, Bool, true, false, List, ◌∷◌, length, length-append, Result, Ok, Err, OnOk, OnErr}
use Rattle.std.proofs.Common.{subst as along}
use Rattle.std.specs.List.{AllByRecursion}
use Rattle.lq_evars.specs.Places.{Places}
use Rattle.lq_unify.specs.declared.frames.Parts.{Parts}
use Rattle.lq_unify.specs.declared.frames.Reducing.{Reducing}
use Rattle.lq_unify.specs.declared.frames.Frame.{Frame}
use Rattle.lq_unify.specs.Frames.{KeepsValues, IsSince, turn_weight, turns}
use Rattle.lq_unify.specs.Turns.{most_turns}

pub on_ok : {T E : Type 0} {A B : Type 0} (r : Result T E) → OnOk r A → (A → B) → OnOk r B
on_ok (Ok v) h k = k h
on_ok (Err e) h k = tt

module _ {T E : Type 0} (r : Result T E) (before s : Places) (old new : List Frame) where
  pub since_look : (q : Reducing) → q.given ≡ length s.values → OnOk r (new ≡ Frame.Reducing q ∷ old) → OnErr r (new ≡ old) → IsSince before s old → IsSince before s new
  since_look q g a c h = by r a c
    where
      many : length before.values ≤ q.given
      many = omega (arith, g, ap length h.more.values, length-append before.values h.more.more)

      by : (o : Result T E) → OnOk o (new ≡ Frame.Reducing q ∷ old) → OnErr o (new ≡ old) → IsSince before s new
      by (Ok v) e f = record { more = h.more; keep = along (AllByRecursion (KeepsValues (length before.values))) (sym e) (many, h.keep) }
      by (Err v) e f = record { more = h.more; keep = along (AllByRecursion (KeepsValues (length before.values))) (sym f) h.keep }

  pub since_parts : (p : Parts) → OnOk r (new ≡ Frame.Parts p ∷ old) → OnErr r (new ≡ old) → IsSince before s old → IsSince before s new
  since_parts p a c h = by r a c
    where
      by : (o : Result T E) → OnOk o (new ≡ Frame.Parts p ∷ old) → OnErr o (new ≡ old) → IsSince before s new
      by (Ok v) e f = record { more = h.more; keep = along (AllByRecursion (KeepsValues (length before.values))) (sym e) (tt, h.keep) }
      by (Err v) e f = record { more = h.more; keep = along (AllByRecursion (KeepsValues (length before.values))) (sym f) h.keep }

pub look_falls : (first : Bool) (f : Frame) (old new : List Frame) → turn_weight f ≤ 4 → first ≡ true → new ≡ f ∷ old → turns new + 2 ≤ most_turns first + turns old
look_falls first f old new w e q = along (λ b. turns new + 2 ≤ most_turns b + turns old) (sym e) (omega (arith, w, ap turns q))

pub pass_falls : (first : Bool) (old : List Frame) → turns old + 2 ≤ most_turns first + turns old
pass_falls true old = omega arith
pass_falls false old = omega arith
