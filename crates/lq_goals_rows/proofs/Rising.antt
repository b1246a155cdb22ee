-- Rising numbers stand once in a list.
use Rattle.std.proofs.Common.{◌≡◌, ◌≤◌, ◌<◌, ◌+◌, ℕ, suc, sym, subst, arith, eqb, eqb-true, Bool, true, false, List, [], ◌∷◌, length, drop, get_or}
use Rattle.std.proofs.lemmas.List.{drop_more}
use Rattle.lq_terms.specs.Terms.{Terms}
use Rattle.lq_solving.proofs.InstanceLaws.{length_map}
use Rattle.lq_evars.specs.Places.{variable_of}
use Rattle.lq_states.specs.Kept.{times, behind_all, AreDistinct, IsListed}
use Rattle.lq_states.proofs.KeptLaws.{times_listed}
use Rattle.lq_goals.specs.Held.{Held, proof_of}
use Rattle.lq_goals_rows.specs.Looks.{AreRising}

-- one number more
pub rising_more : (low count : ℕ) (ks : List ℕ) (i d : ℕ) → i < length ks → low ≤ get_or ks i d → get_or ks i d < count → AreRising (suc (get_or ks i d)) count (drop (i + 1) ks) → AreRising low count (drop i ks)
rising_more low count ks i d l a b r = subst (AreRising low count) (sym (drop_more ks i d l)) (a, b, r)

-- a number below the first bound does not stand there, and another one once at most
rising_lacks : (low count : ℕ) (ks : List ℕ) → AreRising low count ks → (m : ℕ) → m < low → times ks m ≡ 0
unfolding times
rising_lacks low count [] r m l = omega arith
rising_lacks low count (k ∷ ks) r m l = by (eqb k m) (eqb-true k m) (rising_lacks (suc k) count ks r.2 m (omega (arith, l, r.0)))
  where
    by : (b : Bool) → (b ≡ true → k ≡ m) → times ks m ≡ 0 → elim b as (λ z. ℕ) [ true ↦ 1 + times ks m | false ↦ times ks m ] ≡ 0
    by true e f = absurd (omega (arith, e (refl_of true), l, r.0))
      where
        refl_of : (b : Bool) → b ≡ b
        refl_of b = grind arith
    by false e f = f

rising_once : (low count : ℕ) (ks : List ℕ) → AreRising low count ks → (m : ℕ) → (times ks m ≤ 1) × (1 ≤ times ks m → m < count)
unfolding times
rising_once low count [] r m = (omega arith, λ l. absurd (omega (arith, l)))
rising_once low count (k ∷ ks) r m = by (eqb k m) (eqb-true k m) (rising_once (suc k) count ks r.2 m)
  where
    by : (b : Bool) → (b ≡ true → k ≡ m) → (times ks m ≤ 1) × (1 ≤ times ks m → m < count) →
        (elim b as (λ z. ℕ) [ true ↦ 1 + times ks m | false ↦ times ks m ] ≤ 1) × (1 ≤ elim b as (λ z. ℕ) [ true ↦ 1 + times ks m | false ↦ times ks m ] → m < count)
    by true e f = (omega (arith, rising_lacks (suc k) count ks r.2 m (omega (arith, e (grind arith)))), λ l. omega (arith, r.1, e (grind arith)))
    by false e f = f

-- a proof with rising goals and no shelf
pub rising_listed : (bank : Terms) (p : Held) → 0 < length p.store.variables → p.shelf ≡ [] → AreRising 0 (length p.store.variables) p.focus → IsListed (proof_of bank p)
unfolding times behind_all
rising_listed bank p l e r = record {
  rooted = omega (arith, l, length_map (variable_of bank) p.store.variables);
  once = λ k. omega (arith, times_listed (proof_of bank p) k, shelf k, (rising_once 0 (length p.store.variables) p.focus r k).0);
  inside = λ k m. omega (arith, length_map (variable_of bank) p.store.variables, (rising_once 0 (length p.store.variables) p.focus r k).1 (omega (arith, m, times_listed (proof_of bank p) k, shelf k)));
}
  where
    shelf : (k : ℕ) → times p.shelf k ≡ 0
    shelf k = subst (λ js. times js k ≡ 0) (sym e) (grind arith)

pub one_distinct : (g : ℕ) → AreDistinct (g ∷ [])
unfolding times
one_distinct g k = by (eqb g k)
  where
    by : (b : Bool) → elim b as (λ z. ℕ) [ true ↦ 1 + 0 | false ↦ 0 ] ≤ 1
    by true = omega arith
    by false = omega arith

pub empty_list : (ks : List ℕ) → length ks ≡ 0 → ks ≡ []
empty_list [] e = grind arith
empty_list (k ∷ ks) e = absurd (omega (arith, e))
