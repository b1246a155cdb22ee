-- A success at an exactly-once of a stream.
use Rattle.std.proofs.Common.{◌≡◌, ◌≤◌, ◌<◌, ◌+◌, ℕ, zero, suc, Bool, true, false, List, [], ◌∷◌, ◌++◌, Option, Some, None, length, take, slice_get, slice_index_or, slice_set, refl, sym, ◌∙◌, subst, ap, arith}
use Rattle.std.specs.Prelude.{eqb}
use Rattle.lq_runs.specs.Runs.{Run}
use Rattle.lq_runs.specs.Machines.{Does}
use Rattle.lq_runs.specs.Stacks as Stacks
use Rattle.lq_runs.specs.Stacks.{at, keeping, kept, down}
use Rattle.lq_runs.specs.Streams.{has, fails, Shows, frame_cost, frames_cost}
use Rattle.lq_runs.proofs.Heights.{at_none}
use Rattle.lq_runs.proofs.SuccessLaws.{has_alone, SoleAfter}
use Rattle.lq_stream.specs.Stepping.{Telling}
use Rattle.lq_stream.specs.declared.stacks.Link.{Link}
use Rattle.lq_stream.specs.declared.stacks.Choice.{Choice}
use Rattle.lq_stream.specs.declared.stacks.Choice.TheVariants.{Alternative, Otherwise, Lowering, Passed, NoSuccess, FirstSuccess}
use Rattle.lq_stream.specs.Reading.{choice_of, choices_of, stack_at}
use Rattle.lq_stream.specs.Holding.{HasFirst}
use Rattle.lq_stream.proofs.Keeping.{at_is, kept_is}
use Rattle.lq_stream.proofs.Choosing.{choices_length}
use Rattle.lq_stream.proofs.Switching.{down_is}

module _ {A R V C S : Type 0} where
  -- a choice more, above
  first_more : (x : Stacks.Choice A R V C S) (hs : List (Stacks.Choice A R V C S)) → HasFirst hs → HasFirst (x ∷ hs)
  first_more (Stacks.alternative a s ks) hs h = h
  first_more (Stacks.otherwise a s ks) hs h = h
  first_more Stacks.lowering hs h = h
  first_more Stacks.passed hs h = h
  first_more (Stacks.sole_one c None ks) hs h = h
  first_more (Stacks.sole_one c (Some o) ks) hs h = tt

  -- the handler at a height has its first success once it is kept
  pub first_kept : (h : ℕ) (s : S) (v : V) (c : C) (o : Option (S × V)) (ks : List (Stacks.Frame R)) (hs : List (Stacks.Choice A R V C S)) →
      at h hs ≡ Some (Stacks.sole_one c o ks) → HasFirst (kept h s v hs)
  unfolding at kept keeping
  first_kept h s v c o ks [] e = absurd (let z : ◌≡◌ {A = Option (Stacks.Choice A R V C S)} None (Some (Stacks.sole_one c o ks)) = e in cc)
  first_kept h s v c o ks (x ∷ hs) e = go (eqb (length hs) h) e (first_kept h s v c o ks hs)
    where
      go : (b : Bool) → ◌≡◌ {A = Option (Stacks.Choice A R V C S)} (elim b [ true ↦ Some x | false ↦ at h hs ]) (Some (Stacks.sole_one c o ks)) → (at h hs ≡ Some (Stacks.sole_one c o ks) → HasFirst (kept h s v hs)) →
          HasFirst (elim b [ true ↦ keeping s v x ∷ hs | false ↦ x ∷ kept h s v hs ])
      go true q r =
          let z : Stacks.sole_one c o ks ≡ x = let w : ◌≡◌ {A = Option (Stacks.Choice A R V C S)} (Some x) (Some (Stacks.sole_one c o ks)) = q in cc in
          subst (λ y. HasFirst (keeping s v y ∷ hs)) z tt
      go false q r = first_more x (kept h s v hs) (r q)

module _ {A V C K : Type 0} where
  -- what was read at a place that is there
  pub read_at : (h : ℕ) (xs : List (Choice A V C K)) (y z : Choice A V C K) → h < length xs → y ≡ slice_index_or xs h y → z ≡ y → slice_get xs h ≡ Some z
  read_at h [] y z i e o = absurd (let j : h < 0 = i in omega arith)
  read_at zero (x ∷ xs) y z i e o = ap Some (let w : y ≡ x = e in sym (o ∙ w))
  read_at (suc h) (x ∷ xs) y z i e o = read_at h xs y z (let j : suc h < suc (length xs) = i in omega arith) e o

  -- what is put twice at a place
  pub set_twice : (h : ℕ) (xs : List (Choice A V C K)) (x y : Choice A V C K) → slice_set (slice_set xs h x) h y ≡ slice_set xs h y
  set_twice h [] x y = refl
  set_twice zero (z ∷ xs) x y = refl
  set_twice (suc h) (z ∷ xs) x y = ap (λ l. z ∷ l) (set_twice h xs x y)

  -- what lies below a place does not change with it
  pub take_set : (h : ℕ) (xs : List (Choice A V C K)) (x : Choice A V C K) → take h (slice_set xs h x) ≡ take h xs
  take_set h [] x = refl
  take_set zero (z ∷ xs) x = refl
  take_set (suc h) (z ∷ xs) x = ap (λ l. z ∷ l) (take_set h xs x)

module _ {A R V C K A2 R2 V2 C2 S M : Type 0} (rank : R2 → ℕ) (t : Telling A R V C K A2 R2 V2 C2 S) (d : Does M C2 S V2 A2 R2) (s : S) (ls : List (Link R))
    (ks : List (Stacks.Frame R2)) (xs : List (Choice A V C K)) (f : ℕ → Run M C2 S V2) (h : ℕ) (v : V) where
  abbrev Tops : Type 0
  Tops = List (Stacks.Choice A2 R2 V2 C2 S)

  abbrev Before : Type 0
  Before = Shows rank d s (has (t.value v)) (Stacks.alone h ∷ ks) (choices_of t ls xs) f

  -- what the law gives: the handler, and what stands after it
  abbrev Found : C2 → Option (S × V2) → Type 0
  Found c o = (at h (choices_of t ls xs) ≡ Some (Stacks.sole_one c o ks)) × SoleAfter rank d s (t.value v) (choices_of t ls xs) f c h ks o

  -- the handler that was read is that of the law
  read : (x : Choice A V C K) (c : C2) (o : Option (S × V2)) → slice_get xs h ≡ Some x → at h (choices_of t ls xs) ≡ Some (Stacks.sole_one c o ks) → choice_of t ls x ≡ Stacks.sole_one c o ks
  read x c o e q = let z : Some (choice_of t ls x) ≡ Some (Stacks.sole_one c o ks) = sym (at_is t ls h xs x e) ∙ q in cc

  kept_as : (b : C) (i : ℕ) (m : K) → slice_get xs h ≡ Some (NoSuccess b i) → s ≡ t.marked m → kept h s (t.value v) (choices_of t ls xs) ≡ choices_of t ls (slice_set xs h (FirstSuccess b m v i))
  kept_as b i m e u = ap (λ z. kept h z (t.value v) (choices_of t ls xs)) u ∙ kept_is t ls h xs b i m v e

  first_in : (b : C) (i : ℕ) (m : K) (c : C2) (o : Option (S × V2)) → slice_get xs h ≡ Some (NoSuccess b i) → s ≡ t.marked m → Found c o →
      (e : C2) × Shows rank d s (fails 0 e) (Stacks.alone h ∷ ks) (choices_of t ls (slice_set xs h (FirstSuccess b m v i))) f × HasFirst (choices_of t ls (slice_set xs h (FirstSuccess b m v i)))
  unfolding SoleAfter
  first_in b i m c None e u q =
      let w : kept h s (t.value v) (choices_of t ls xs) ≡ choices_of t ls (slice_set xs h (FirstSuccess b m v i)) = kept_as b i m e u in
      (c, subst (λ z. Shows rank d s (fails 0 c) (Stacks.alone h ∷ ks) z f) w q.1, subst (λ z. HasFirst z) w (first_kept h s (t.value v) c None ks (choices_of t ls xs) q.0))
  first_in b i m c (Some o) e u q =
      let z : choice_of t ls (NoSuccess b i) ≡ Stacks.sole_one c (Some o) ks = read (NoSuccess b i) c (Some o) e q.0 in
      absurd (let w : Stacks.sole_one (t.cause b) None (stack_at t.rest ls i) ≡ Stacks.sole_one c (Some o) ks = z in
      let n : ◌≡◌ {A = Option (S × V2)} None (Some o) = cc in cc)

  pub first_found : (b : C) (i : ℕ) (m : K) → slice_get xs h ≡ Some (NoSuccess b i) → t.marked m ≡ s → Before →
      (e : C2) × Shows rank d s (fails 0 e) (Stacks.alone h ∷ ks) (choices_of t ls (slice_set xs h (FirstSuccess b m v i))) f × HasFirst (choices_of t ls (slice_set xs h (FirstSuccess b m v i)))
  first_found b i m e u q =
      let r : _ = has_alone rank d s (t.value v) (choices_of t ls xs) f h ks q in
      first_in b i m r.0 r.1 e (sym u) (r.2, r.3)

  -- a failure's continuations need only cost enough
  over_frame : (e : C2) (hs : Tops) → Shows rank d s (fails 0 e) ks hs f → Shows rank d s (fails 0 e) (Stacks.alone h ∷ ks) hs f
  unfolding frames_cost frame_cost
  over_frame e hs q =
      let l : frames_cost rank (q.ps ++ q.bs) ≤ frames_cost rank ks = q.framed in
      record { bs = q.bs; ps = q.ps; fits = q.fits; passive = q.passive; framed = omega arith; same = q.same }

  second_in : (b : C) (m : K) (w : V) (i : ℕ) (c : C2) (o : Option (S × V2)) → slice_get xs h ≡ Some (FirstSuccess b m w i) → Found c o →
      Shows rank d s (fails 0 (t.cause b)) (Stacks.alone h ∷ ks) (choices_of t ls (take h xs)) f
  unfolding SoleAfter
  second_in b m w i c None e q =
      let z : choice_of t ls (FirstSuccess b m w i) ≡ Stacks.sole_one c None ks = read (FirstSuccess b m w i) c None e q.0 in
      absurd (let y : Stacks.sole_one (t.cause b) (Some (t.marked m, t.value w)) (stack_at t.rest ls i) ≡ Stacks.sole_one c None ks = z in
      let n : ◌≡◌ {A = Option (S × V2)} (Some (t.marked m, t.value w)) None = cc in cc)
  second_in b m w i c (Some o) e q =
      let z : choice_of t ls (FirstSuccess b m w i) ≡ Stacks.sole_one c (Some o) ks = read (FirstSuccess b m w i) c (Some o) e q.0 in
      let y : c ≡ t.cause b = let n : Stacks.sole_one (t.cause b) (Some (t.marked m, t.value w)) (stack_at t.rest ls i) ≡ Stacks.sole_one c (Some o) ks = z in cc in
      over_frame (t.cause b) (choices_of t ls (take h xs))
      (subst (λ n. Shows rank d s (fails 0 (t.cause b)) ks n f) (down_is t ls h xs) (subst (λ n. Shows rank d s (fails 0 n) ks (down h (choices_of t ls xs)) f) y q.1))

  pub second_found : (b : C) (m : K) (w : V) (i : ℕ) → slice_get xs h ≡ Some (FirstSuccess b m w i) → Before →
      Shows rank d s (fails 0 (t.cause b)) (Stacks.alone h ∷ ks) (choices_of t ls (take h xs)) f
  second_found b m w i e q =
      let r : _ = has_alone rank d s (t.value v) (choices_of t ls xs) f h ks q in
      second_in b m w i r.0 r.1 e (r.2, r.3)

  -- no other choice is the handler of an exactly-once
  other_in : (x : Choice A V C K) (c : C2) (o : Option (S × V2)) → ((b : C) (i : ℕ) → x ≡ NoSuccess b i → ⊥) → ((b : C) (m : K) (w : V) (i : ℕ) → x ≡ FirstSuccess b m w i → ⊥) →
      choice_of t ls x ≡ Stacks.sole_one c o ks → ⊥
  other_in (Alternative a m i) c o n p e = let z : Stacks.alternative (t.code a) (t.marked m) (stack_at t.rest ls i) ≡ Stacks.sole_one c o ks = e in cc
  other_in (Otherwise a m i) c o n p e = let z : Stacks.otherwise (t.code a) (t.marked m) (stack_at t.rest ls i) ≡ Stacks.sole_one c o ks = e in cc
  other_in Lowering c o n p e = let z : ◌≡◌ {A = Stacks.Choice A2 R2 V2 C2 S} Stacks.lowering (Stacks.sole_one c o ks) = e in cc
  other_in Passed c o n p e = let z : ◌≡◌ {A = Stacks.Choice A2 R2 V2 C2 S} Stacks.passed (Stacks.sole_one c o ks) = e in cc
  other_in (NoSuccess b i) c o n p e = n b i refl
  other_in (FirstSuccess b m w i) c o n p e = p b m w i refl

  pub none_found : (x : Choice A V C K) → slice_get xs h ≡ Some x → ((b : C) (i : ℕ) → x ≡ NoSuccess b i → ⊥) → ((b : C) (m : K) (w : V) (i : ℕ) → x ≡ FirstSuccess b m w i → ⊥) → Before → ⊥
  none_found x e n p q =
      let r : _ = has_alone rank d s (t.value v) (choices_of t ls xs) f h ks q in
      other_in x r.0 r.1 n p (read x r.0 r.1 e r.2)

  pub nothing_found : length xs ≤ h → Before → ⊥
  nothing_found i q =
      let r : _ = has_alone rank d s (t.value v) (choices_of t ls xs) f h ks q in
      let n : length (choices_of t ls xs) ≡ 0 + length xs = choices_length t ls [] xs in
      let o : at h (choices_of t ls xs) ≡ None = at_none (choices_of t ls xs) h (omega arith) in
      let z : ◌≡◌ {A = Option (Stacks.Choice A2 R2 V2 C2 S)} None (Some (Stacks.sole_one r.0 r.1 ks)) = sym o ∙ r.2 in cc
