-- What the loops over lists of goals come to.
use Rattle.std.proofs.Common.{◌≡◌, ◌≤◌, ◌<◌, ◌+◌, ◌∙◌, ℕ, zero, suc, refl, sym, ap, subst, arith, eqb, eqb-true, eq-eqb, cond, Bool, true, false, ◌||◌, ◌&&◌, List, [], ◌∷◌, ◌++◌, length, get_or, drop, append-nil, append_assoc, Option, Some, None}
use Rattle.std.specs.Prelude.{not, if◌then◌else◌, slice_get}
use Rattle.std.specs.List.{filter}
use Rattle.std.proofs.lemmas.List.{drop_more, drop_all}
use Rattle.lq_terms.specs.declared.nodes.TermId.{TermId}
use Rattle.lq_evars.specs.Places.{Places, value_at}
use Rattle.lq_states.specs.Goals.{has, without, has_each, placed, refocused}
use Rattle.lq_goals.specs.Held.{open_one, open_in, is_missing, stands_for, IsQuiet, AreQuiet}

-- whether a list has a goal
has_step : (j : ℕ) (js : List ℕ) (k : ℕ) → has (j ∷ js) k ≡ (eqb j k || has js k)
unfolding has
has_step j js k = refl

has_none : (k : ℕ) → has [] k ≡ false
unfolding has
has_none k = refl

not_equal : (j k : ℕ) → (j ≡ k → ⊥) → eqb j k ≡ false
not_equal j k n = by (eqb j k) refl
  where
    by : (b : Bool) → eqb j k ≡ b → b ≡ false
    by true e = absurd (n (eqb-true j k e))
    by false e = refl

module _ (js : List ℕ) (k i : ℕ) where
  step : (d : ℕ) → i < length js → has (drop i js) k ≡ (eqb (get_or js i d) k || has (drop (i + 1) js) k)
  step d l = ap (λ xs. has xs k) (drop_more js i d l) ∙ has_step (get_or js i d) (drop (i + 1) js) k

  pub has_found : (d : ℕ) → i < length js → get_or js i d ≡ k → has js k ≡ has (drop i js) k → true ≡ has js k
  has_found d l e so_far = sym (so_far ∙ step d l ∙ ap (λ b. b || has (drop (i + 1) js) k) (eq-eqb (get_or js i d) k e))

  pub has_on : (d : ℕ) → i < length js → (get_or js i d ≡ k → ⊥) → has js k ≡ has (drop i js) k → has js k ≡ has (drop (i + 1) js) k
  has_on d l e so_far = so_far ∙ step d l ∙ ap (λ b. b || has (drop (i + 1) js) k) (not_equal (get_or js i d) k e)

  pub has_end : length js ≤ i → has js k ≡ has (drop i js) k → false ≡ has js k
  has_end l so_far = sym (so_far ∙ ap (λ xs. has xs k) (drop_all i js l) ∙ has_none k)

-- whether a list has each of some goals
each_step : (js : List ℕ) (k : ℕ) (ks : List ℕ) → has_each js (k ∷ ks) ≡ (has js k && has_each js ks)
unfolding has_each
each_step js k ks = refl

each_none : (js : List ℕ) → has_each js [] ≡ true
unfolding has_each
each_none js = refl

module _ (js ks : List ℕ) (i : ℕ) where
  each : (d : ℕ) → i < length ks → has_each js (drop i ks) ≡ (has js (get_or ks i d) && has_each js (drop (i + 1) ks))
  each d l = ap (has_each js) (drop_more ks i d l) ∙ each_step js (get_or ks i d) (drop (i + 1) ks)

  pub each_lacks : (d : ℕ) → i < length ks → has js (get_or ks i d) ≡ false → has_each js ks ≡ has_each js (drop i ks) → false ≡ has_each js ks
  each_lacks d l e so_far = sym (so_far ∙ each d l ∙ ap (λ b. b && has_each js (drop (i + 1) ks)) e)

  pub each_on : (d : ℕ) → i < length ks → has js (get_or ks i d) ≡ true → has_each js ks ≡ has_each js (drop i ks) → has_each js ks ≡ has_each js (drop (i + 1) ks)
  each_on d l e so_far = so_far ∙ each d l ∙ ap (λ b. b && has_each js (drop (i + 1) ks)) e

  pub each_end : length ks ≤ i → has_each js ks ≡ has_each js (drop i ks) → true ≡ has_each js ks
  each_end l so_far = sym (so_far ∙ ap (has_each js) (drop_all i ks l) ∙ each_none js)

-- the goals that a test lets stay
pub kept_without : (ks js : List ℕ) → filter (λ j. not (has ks j)) js ≡ without ks js
unfolding without
kept_without ks [] = refl
kept_without ks (j ∷ js) = by (has ks j) (kept_without ks js)
  where
    by : (b : Bool) → filter (λ i. not (has ks i)) js ≡ without ks js →
        cond (not b) (j ∷ filter (λ i. not (has ks i)) js) (filter (λ i. not (has ks i)) js)
        ≡ elim b as (λ z. List ℕ) [ true ↦ without ks js | false ↦ j ∷ without ks js ]
    by true e = e
    by false e = ap (λ z. j ∷ z) e

pub kept_open : (s : Places) (js : List ℕ) → filter (λ j. is_missing (value_at s j)) js ≡ open_in s js
kept_open s [] = refl
kept_open s (j ∷ js) = by (value_at s j) (kept_open s js)
  where
    by : (o : Option TermId) → filter (λ i. is_missing (value_at s i)) js ≡ open_in s js →
        cond (is_missing o) (j ∷ filter (λ i. is_missing (value_at s i)) js) (filter (λ i. is_missing (value_at s i)) js)
        ≡ open_one o j (open_in s js)
    by None e = ap (λ z. j ∷ z) e
    by (Some t) e = e

-- goals in the place of the first taken one
placed_step : (k : ℕ) (taken left : List ℕ) (j : ℕ) (js : List ℕ) → placed k taken left (j ∷ js) ≡ stands_for k taken left j ++ placed k taken left js
unfolding placed
placed_step k taken left j js = by (eqb j k) (has taken j)
  where
    by : (a b : Bool) → elim a as (λ z. List ℕ) [
      | true ↦ left ++ placed k taken left js
      | false ↦ elim b as (λ z. List ℕ) [ true ↦ placed k taken left js | false ↦ j ∷ placed k taken left js ]
    ] ≡ (elim a as (λ z. List ℕ) [ true ↦ left | false ↦ elim b as (λ z. List ℕ) [ true ↦ [] | false ↦ j ∷ [] ] ]) ++ placed k taken left js
    by true b = refl
    by false true = refl
    by false false = refl

placed_none : (k : ℕ) (taken left : List ℕ) → placed k taken left [] ≡ []
unfolding placed
placed_none k taken left = refl

pub placed_on : (k : ℕ) (taken left js : List ℕ) (i d : ℕ) (made : List ℕ) → i < length js → made ++ placed k taken left (drop i js) ≡ placed k taken left js →
    (made ++ stands_for k taken left (get_or js i d)) ++ placed k taken left (drop (i + 1) js) ≡ placed k taken left js
placed_on k taken left js i d made l so_far =
    append_assoc made (stands_for k taken left (get_or js i d)) (placed k taken left (drop (i + 1) js))
    ∙ ap (λ z. made ++ z) (sym (ap (placed k taken left) (drop_more js i d l) ∙ placed_step k taken left (get_or js i d) (drop (i + 1) js))) ∙ so_far

pub placed_end : (k : ℕ) (taken left js : List ℕ) (i : ℕ) (made : List ℕ) → length js ≤ i → made ++ placed k taken left (drop i js) ≡ placed k taken left js → made ≡ placed k taken left js
placed_end k taken left js i made l so_far =
    sym (append-nil made) ∙ ap (λ z. made ++ z) (sym (ap (placed k taken left) (drop_all i js l) ∙ placed_none k taken left)) ∙ so_far

pub stands_first : (k : ℕ) (taken left : List ℕ) (j : ℕ) → j ≡ k → stands_for k taken left j ≡ left
stands_first k taken left j e = ap (λ b. elim b as (λ z. List ℕ) [ true ↦ left | false ↦ elim (has taken j) as (λ z. List ℕ) [ true ↦ [] | false ↦ j ∷ [] ] ]) (eq-eqb j k e)

stands_other : (k : ℕ) (taken left : List ℕ) (j : ℕ) → (j ≡ k → ⊥) → stands_for k taken left j ≡ elim (has taken j) as (λ z. List ℕ) [ true ↦ [] | false ↦ j ∷ [] ]
stands_other k taken left j n = ap (λ b. elim b as (λ z. List ℕ) [ true ↦ left | false ↦ elim (has taken j) as (λ z. List ℕ) [ true ↦ [] | false ↦ j ∷ [] ] ]) (not_equal j k n)

pub stands_taken : (k : ℕ) (taken left : List ℕ) (j : ℕ) → (j ≡ k → ⊥) → has taken j ≡ true → stands_for k taken left j ≡ []
stands_taken k taken left j n e = stands_other k taken left j n ∙ ap (λ b. elim b as (λ z. List ℕ) [ true ↦ [] | false ↦ j ∷ [] ]) e

pub stands_itself : (k : ℕ) (taken left : List ℕ) (j : ℕ) → (j ≡ k → ⊥) → has taken j ≡ false → stands_for k taken left j ≡ j ∷ []
stands_itself k taken left j n e = stands_other k taken left j n ∙ ap (λ b. elim b as (λ z. List ℕ) [ true ↦ [] | false ↦ j ∷ [] ]) e

-- the focus by the first taken goal
pub refocused_empty : (taken left focus : List ℕ) → length taken < 1 → focus ≡ refocused taken left focus
unfolding refocused
refocused_empty [] left focus l = refl
refocused_empty (k ∷ ks) left focus l = absurd (omega (arith, l))

pub refocused_first : (taken left focus : List ℕ) (d : ℕ) → 1 ≤ length taken →
    (if has focus (get_or taken 0 d) then placed (get_or taken 0 d) taken left focus else left ++ without taken focus) ≡ refocused taken left focus
unfolding refocused
refocused_first [] left focus d l = absurd (omega (arith, l))
refocused_first (k ∷ ks) left focus d l = by (has focus k)
  where
    by : (b : Bool) → (if b then placed k (k ∷ ks) left focus else left ++ without (k ∷ ks) focus)
        ≡ elim b as (λ z. List ℕ) [ true ↦ placed k (k ∷ ks) left focus | false ↦ left ++ without (k ∷ ks) focus ]
    by true = refl
    by false = refl

-- values that are looked at one after the other
quiet_step : (seen : ℕ) (taken : List ℕ) (as_ : List (ℕ × TermId)) (i : ℕ) → IsQuiet seen taken (slice_get as_ i) → AreQuiet seen taken (drop (suc i) as_) → AreQuiet seen taken (drop i as_)
quiet_step seen taken [] i q a = all_quiet i
  where
    all_quiet : (j : ℕ) → AreQuiet seen taken (drop j [])
    all_quiet zero = tt
    all_quiet (suc j) = tt
quiet_step seen taken (x ∷ as_) zero q a = (q, a)
quiet_step seen taken (x ∷ as_) (suc i) q a = quiet_step seen taken as_ i q a

pub quiet_on : (seen : ℕ) (taken : List ℕ) (as_ : List (ℕ × TermId)) (i : ℕ) → IsQuiet seen taken (slice_get as_ i) → AreQuiet seen taken (drop (i + 1) as_) → AreQuiet seen taken (drop i as_)
quiet_on seen taken as_ i q a = let n : i + 1 ≡ suc i = omega arith in quiet_step seen taken as_ i q (subst (λ j. AreQuiet seen taken (drop j as_)) n a)

pub quiet_end : (seen : ℕ) (taken : List ℕ) (as_ : List (ℕ × TermId)) (i : ℕ) → length as_ ≤ i → AreQuiet seen taken (drop i as_)
quiet_end seen taken as_ i l = subst (AreQuiet seen taken) (sym (drop_all i as_ l)) tt
