-- How often a number stands in the lists that rows make: variables that were made, those without a value, those that nothing depends on.
use Rattle.std.proofs.Common.{◌≡◌, ◌≤◌, ◌<◌, ◌+◌, ◌-◌, ℕ, zero, suc, refl, sym, ◌∙◌, ap, arith, eqb, eqb-true, Bool, true, false, List, [], ◌∷◌}
use Rattle.lq_solving.specs.Stores.{Store, count, is_open}
use Rattle.lq_solving.specs.Elaboration.{numbers, made_between}
use Rattle.lq_states.specs.Goals.{has, without}
use Rattle.lq_states.specs.Kept.{times}
use Rattle.lq_states.proofs.ListLaws.{times_without}
use Rattle.lq_tactics.specs.Rows.{open_of, made_open}
use Rattle.lq_tactics.specs.Applying.{Opening, any_depends, is_needed, dependent_in}
use Rattle.lq_tactics.specs.Primitives.{independent}

-- no number stands oftener in the first list than in the second
abbrev pub IsAmong : List ℕ → List ℕ → Type 0
IsAmong ks js = (m : ℕ) → times ks m ≤ times js m

-- one more before both, or before the second alone
both_more : (k : ℕ) (ks js : List ℕ) → IsAmong ks js → IsAmong (k ∷ ks) (k ∷ js)
unfolding times
both_more k ks js h m = at (eqb k m)
  where
    at : (b : Bool) → elim b as (λ z. ℕ) [ true ↦ 1 + times ks m | false ↦ times ks m ] ≤ elim b as (λ z. ℕ) [ true ↦ 1 + times js m | false ↦ times js m ]
    at true = omega (arith, h m)
    at false = h m

second_more : (k : ℕ) (ks js : List ℕ) → IsAmong ks js → IsAmong ks (k ∷ js)
unfolding times
second_more k ks js h m = at (eqb k m)
  where
    at : (b : Bool) → times ks m ≤ elim b as (λ z. ℕ) [ true ↦ 1 + times js m | false ↦ times js m ]
    at true = omega (arith, h m)
    at false = h m

-- a list filtered by a test
abbrev pub Filters : (ℕ → Bool) → (List ℕ → List ℕ) → Type 0
Filters keep f = (f [] ≡ []) × ((k : ℕ) (ks : List ℕ) → f (k ∷ ks) ≡ elim (keep k) as (λ z. List ℕ) [ true ↦ k ∷ f ks | false ↦ f ks ])

pub filtered_among : (keep : ℕ → Bool) (f : List ℕ → List ℕ) → Filters keep f → (ks : List ℕ) → IsAmong (f ks) ks
unfolding times
filtered_among keep f h [] m = omega (arith, ap (λ z. times z m) h.0)
filtered_among keep f h (k ∷ ks) m = at (keep k) (h.1 k ks) (filtered_among keep f h ks)
  where
    at : (b : Bool) → f (k ∷ ks) ≡ elim b as (λ z. List ℕ) [ true ↦ k ∷ f ks | false ↦ f ks ] → IsAmong (f ks) ks → times (f (k ∷ ks)) m ≤ times (k ∷ ks) m
    at true e i = omega (arith, ap (λ z. times z m) e, both_more k (f ks) ks i m)
    at false e i = omega (arith, ap (λ z. times z m) e, second_more k (f ks) ks i m)

-- what stands in it passes the test
pub filtered_keeps : (keep : ℕ → Bool) (f : List ℕ → List ℕ) → Filters keep f → (ks : List ℕ) (m : ℕ) → 1 ≤ times (f ks) m → keep m ≡ true
unfolding times
filtered_keeps keep f h [] m l = absurd (omega (arith, l, ap (λ z. times z m) h.0))
filtered_keeps keep f h (k ∷ ks) m l = at (keep k) refl (h.1 k ks) (λ g. filtered_keeps keep f h ks m g)
  where
    here : (b : Bool) → eqb k m ≡ b → keep k ≡ true → 1 ≤ elim b as (λ z. ℕ) [ true ↦ 1 + times (f ks) m | false ↦ times (f ks) m ] → (1 ≤ times (f ks) m → keep m ≡ true) → keep m ≡ true
    here true e i g ih = sym (ap keep (eqb-true k m e)) ∙ i
    here false e i g ih = ih g

    at : (b : Bool) → keep k ≡ b → f (k ∷ ks) ≡ elim b as (λ z. List ℕ) [ true ↦ k ∷ f ks | false ↦ f ks ] → (1 ≤ times (f ks) m → keep m ≡ true) → keep m ≡ true
    at true i e ih = here (eqb k m) refl i (omega (arith, l, ap (λ z. times z m) e)) ih
    at false i e ih = ih (omega (arith, l, ap (λ z. times z m) e))

-- those without a value
pub open_filters : (s : Store) → Filters (is_open s) (open_of s)
unfolding open_of
open_filters s = (refl, λ k ks. refl)

-- those on which something depends
pub dependent_filters : (s : Store) (o : Opening) → Filters (is_needed s o) (dependent_in s o)
unfolding dependent_in
dependent_filters s o = (refl, λ k ks. refl)

-- those on which nothing depends
pub independent_among : (s : Store) (ks js : List ℕ) → IsAmong (independent s ks js) js
unfolding independent times
independent_among s ks [] m = omega arith
independent_among s ks (j ∷ js) m = at (any_depends s j ks) (independent_among s ks js)
  where
    at : (b : Bool) → IsAmong (independent s ks js) js → times (elim b as (λ z. List ℕ) [ true ↦ independent s ks js | false ↦ j ∷ independent s ks js ]) m ≤ times (j ∷ js) m
    at true i = second_more j (independent s ks js) js i m
    at false i = both_more j (independent s ks js) js i m

pub without_among : (ks js : List ℕ) → IsAmong (without ks js) js
without_among ks js m = at (has ks m) (times_without ks js m)
  where
    at : (b : Bool) → times (without ks js) m ≡ elim b as (λ z. ℕ) [ true ↦ 0 | false ↦ times js m ] → times (without ks js) m ≤ times js m
    at true e = omega (arith, e)
    at false e = omega (arith, e)

pub among_then : (is js ks : List ℕ) → IsAmong is js → IsAmong js ks → IsAmong is ks
among_then is js ks f g m = omega (arith, f m, g m)

-- numbers from one on: none twice, none below, none beyond
pub numbers_inside : (n k m : ℕ) → 1 ≤ times (numbers k n) m → (k ≤ m) × (m < k + n)
unfolding numbers times
numbers_inside zero k m l = absurd (omega (arith, l))
numbers_inside (suc n) k m l = at (eqb k m) refl l (λ h. numbers_inside n (suc k) m h)
  where
    at : (b : Bool) → eqb k m ≡ b → 1 ≤ elim b as (λ z. ℕ) [ true ↦ 1 + times (numbers (suc k) n) m | false ↦ times (numbers (suc k) n) m ] →
        (1 ≤ times (numbers (suc k) n) m → (suc k ≤ m) × (m < suc k + n)) → (k ≤ m) × (m < k + suc n)
    at true e h ih = let q = eqb-true k m e in (omega (arith, q), omega (arith, q))
    at false e h ih = let q = ih h in (omega (arith, q.0), omega (arith, q.1))

pub numbers_once : (n k m : ℕ) → times (numbers k n) m ≤ 1
unfolding numbers times
numbers_once zero k m = omega arith
numbers_once (suc n) k m = at (eqb k m) refl (numbers_once n (suc k) m) (λ h. numbers_inside n (suc k) m h)
  where
    at : (b : Bool) → eqb k m ≡ b → times (numbers (suc k) n) m ≤ 1 → (1 ≤ times (numbers (suc k) n) m → (suc k ≤ m) × (m < suc k + n)) →
        elim b as (λ z. ℕ) [ true ↦ 1 + times (numbers (suc k) n) m | false ↦ times (numbers (suc k) n) m ] ≤ 1
    at true e i ih = none (times (numbers (suc k) n) m) refl
      where
        none : (j : ℕ) → times (numbers (suc k) n) m ≡ j → 1 + times (numbers (suc k) n) m ≤ 1
        none zero p = omega (arith, p)
        none (suc j) p = absurd (omega (arith, (ih (omega (arith, p))).0, eqb-true k m e))
    at false e i ih = i

-- the variables that were made and have no value
pub made_once : (s s1 : Store) (m : ℕ) → times (made_open s s1) m ≤ 1
unfolding made_open made_between
made_once s s1 m =
    omega (arith, filtered_among (is_open s1) (open_of s1) (open_filters s1) (numbers (count s) (count s1 - count s)) m, numbers_once (count s1 - count s) (count s) m)

pub made_new : (s s1 : Store) (m : ℕ) → 1 ≤ times (made_open s s1) m → count s ≤ m
unfolding made_open made_between
made_new s s1 m l =
    let among = filtered_among (is_open s1) (open_of s1) (open_filters s1) (numbers (count s) (count s1 - count s)) m in
    (numbers_inside (count s1 - count s) (count s) m (omega (arith, l, among))).0

pub made_valueless : (s s1 : Store) (m : ℕ) → 1 ≤ times (made_open s s1) m → is_open s1 m ≡ true
unfolding made_open
made_valueless s s1 m l = filtered_keeps (is_open s1) (open_of s1) (open_filters s1) (made_between s s1) m l
