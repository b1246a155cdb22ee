-- How often a number stands in lists that are put together, filtered, or have goals in the place of others.
use Rattle.std.proofs.Common.{◌≡◌, ◌≤◌, ◌+◌, ◌*◌, ℕ, refl, sym, ◌∙◌, ap, arith, eqb, eqb-true, Bool, true, false, ◌||◌, List, [], ◌∷◌, ◌++◌}
use Rattle.lq_solving.specs.Stores.{Store, has_value}
use Rattle.lq_states.specs.Goals.{has, without, still_open, placed}
use Rattle.lq_states.specs.Kept.{times}

pub times_append : (xs ys : List ℕ) (k : ℕ) → times (xs ++ ys) k ≡ times xs k + times ys k
unfolding times
times_append [] ys k = omega arith
times_append (x ∷ xs) ys k = go (eqb x k) (times_append xs ys k)
  where
    go : (b : Bool) → times (xs ++ ys) k ≡ times xs k + times ys k →
        elim b [ true ↦ 1 + times (xs ++ ys) k | false ↦ times (xs ++ ys) k ] ≡ elim b [ true ↦ 1 + times xs k | false ↦ times xs k ] + times ys k
    go true e = omega (arith, e)
    go false e = e

-- a list has a number exactly where it stands there
pub has_stands : (js : List ℕ) (k : ℕ) → has js k ≡ true → 1 ≤ times js k
unfolding has times
has_stands [] k e = absurd (grind arith)
has_stands (j ∷ js) k e = go (eqb j k) e (has_stands js k)
  where
    go : (b : Bool) → b || has js k ≡ true → (has js k ≡ true → 1 ≤ times js k) → 1 ≤ elim b [ true ↦ 1 + times js k | false ↦ times js k ]
    go true e i = omega arith
    go false e i = i e

pub lacks_none : (js : List ℕ) (k : ℕ) → has js k ≡ false → times js k ≡ 0
unfolding has times
lacks_none [] k e = refl
lacks_none (j ∷ js) k e = go (eqb j k) e (lacks_none js k)
  where
    go : (b : Bool) → b || has js k ≡ false → (has js k ≡ false → times js k ≡ 0) → elim b as (λ z. ℕ) [ true ↦ 1 + times js k | false ↦ times js k ] ≡ 0
    go true e i = absurd (grind (arith, e))
    go false e i = i e

-- a number that is left out stands nowhere, another as often as before
pub times_without : (ks js : List ℕ) (m : ℕ) → times (without ks js) m ≡ elim (has ks m) [ true ↦ 0 | false ↦ times js m ]
unfolding without times
times_without ks [] m = go (has ks m)
  where
    go : (b : Bool) → 0 ≡ elim b as (λ z. ℕ) [ true ↦ 0 | false ↦ 0 ]
    go true = refl
    go false = refl
times_without ks (j ∷ js) m = by (has ks j) (eqb j m) (has ks m) (λ e. ap (has ks) (eqb-true j m e)) refl refl refl (times_without ks js m)
  where
    by : (b c d : Bool) → (c ≡ true → has ks j ≡ has ks m) → has ks j ≡ b → eqb j m ≡ c → has ks m ≡ d → times (without ks js) m ≡ elim d [ true ↦ 0 | false ↦ times js m ] →
        times (elim b [ true ↦ without ks js | false ↦ j ∷ without ks js ]) m ≡ elim d [ true ↦ 0 | false ↦ elim c [ true ↦ 1 + times js m | false ↦ times js m ] ]
    by true true true f p q r e = e
    by true true false f p q r e = absurd (grind (arith, sym p ∙ f refl ∙ r))
    by true false true f p q r e = e
    by true false false f p q r e = e
    by false true true f p q r e = absurd (grind (arith, sym p ∙ f refl ∙ r))
    by false true false f p q r e = ap (λ z. elim z as (λ y. ℕ) [ true ↦ 1 + times (without ks js) m | false ↦ times (without ks js) m ]) q ∙ ap (λ z. 1 + z) e
    by false false true f p q r e = ap (λ z. elim z as (λ y. ℕ) [ true ↦ 1 + times (without ks js) m | false ↦ times (without ks js) m ]) q ∙ e
    by false false false f p q r e = ap (λ z. elim z as (λ y. ℕ) [ true ↦ 1 + times (without ks js) m | false ↦ times (without ks js) m ]) q ∙ e

-- a goal that has a value stands nowhere any more, another as often as before
pub times_open : (s : Store) (js : List ℕ) (m : ℕ) → times (still_open s js) m ≡ elim (has_value s m) [ true ↦ 0 | false ↦ times js m ]
unfolding still_open times
times_open s [] m = go (has_value s m)
  where
    go : (b : Bool) → 0 ≡ elim b as (λ z. ℕ) [ true ↦ 0 | false ↦ 0 ]
    go true = refl
    go false = refl
times_open s (j ∷ js) m = by (has_value s j) (eqb j m) (has_value s m) (λ e. ap (has_value s) (eqb-true j m e)) refl refl refl (times_open s js m)
  where
    by : (b c d : Bool) → (c ≡ true → has_value s j ≡ has_value s m) → has_value s j ≡ b → eqb j m ≡ c → has_value s m ≡ d → times (still_open s js) m ≡ elim d [ true ↦ 0 | false ↦ times js m ] →
        times (elim b [ true ↦ still_open s js | false ↦ j ∷ still_open s js ]) m ≡ elim d [ true ↦ 0 | false ↦ elim c [ true ↦ 1 + times js m | false ↦ times js m ] ]
    by true true true f p q r e = e
    by true true false f p q r e = absurd (grind (arith, sym p ∙ f refl ∙ r))
    by true false true f p q r e = e
    by true false false f p q r e = e
    by false true true f p q r e = absurd (grind (arith, sym p ∙ f refl ∙ r))
    by false true false f p q r e = ap (λ z. elim z as (λ y. ℕ) [ true ↦ 1 + times (still_open s js) m | false ↦ times (still_open s js) m ]) q ∙ ap (λ z. 1 + z) e
    by false false true f p q r e = ap (λ z. elim z as (λ y. ℕ) [ true ↦ 1 + times (still_open s js) m | false ↦ times (still_open s js) m ]) q ∙ e
    by false false false f p q r e = ap (λ z. elim z as (λ y. ℕ) [ true ↦ 1 + times (still_open s js) m | false ↦ times (still_open s js) m ]) q ∙ e

-- the goals left stand as often as the first taken one did, the taken ones nowhere else
pub times_placed : (k : ℕ) (taken left js : List ℕ) (m : ℕ) → has taken k ≡ true →
    times (placed k taken left js) m ≡ times js k * times left m + times (without taken js) m
unfolding placed without times
times_placed k taken left [] m h = omega arith
times_placed k taken left (j ∷ js) m h =
    by (eqb j k) (has taken j) (λ e. ap (has taken) (eqb-true j k e) ∙ h) refl (times_placed k taken left js m h)
  where
    by : (b c : Bool) → (b ≡ true → c ≡ true) → has taken j ≡ c → times (placed k taken left js) m ≡ times js k * times left m + times (without taken js) m →
        times (elim b [ true ↦ left ++ placed k taken left js | false ↦ elim c [ true ↦ placed k taken left js | false ↦ j ∷ placed k taken left js ] ]) m
        ≡ elim b [ true ↦ 1 + times js k | false ↦ times js k ] * times left m + times (elim c [ true ↦ without taken js | false ↦ j ∷ without taken js ]) m
    by true true f p e = times_append left (placed k taken left js) m ∙ omega (arith, e)
    by true false f p e = absurd (grind (arith, f refl))
    by false true f p e = e
    by false false f p e = go (eqb j m)
      where
        go : (d : Bool) → elim d as (λ y. ℕ) [ true ↦ 1 + times (placed k taken left js) m | false ↦ times (placed k taken left js) m ]
            ≡ times js k * times left m + elim d [ true ↦ 1 + times (without taken js) m | false ↦ times (without taken js) m ]
        go true = omega (arith, e)
        go false = e
