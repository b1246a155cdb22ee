-- Where a term has no local definition, its beta normal form is its normal form where nothing is declared and no hypothesis has a body.
use Rattle.std.proofs.Common.{◌≡◌, ◌+◌, ℕ, zero, suc, refl, ◌∙◌, ap, ap₂, arith, Bool, true, false, ◌||◌, List, [], ◌∷◌, Option, Some, None, inl, inr}
use Rattle.std.proofs.Common.{subst as along}
use Rattle.std.proofs.lemmas.Bool.{cases_lt}
use Rattle.lq_trees.specs.Tree.{Tree, Trees, none, more}
use Rattle.lq_trees.specs.Tree.Tree.{Rel, Var, Sort, Prod, Lam, Let, App, Const, Ind, Ctor, Elim, Evar}
use Rattle.lq_trees.specs.Change.{lift, lift_each, lifted, filled, fill, fill_each}
use Rattle.lq_trees.specs.Rules.{Rules}
use Rattle.lq_trees.specs.Ticks.{Paid, gives, tick, cut, ◌>>=◌}
use Rattle.lq_trees.proofs.FillLaws.{subst_fill, filled_below, lifted_below, lifted_above}
use Rattle.lq_calculus.specs.Contraction.{Elimination, hypothesis, spine, beta, elimination_of, elimination, iota, contract, contract_beta, normal_by, normal_all, normal_form}
use Rattle.lq_solving.proofs.Steady.{at_place, beyond_place}

-- whether a term has a local definition
abbrev mutual
  pub has_let : Tree → Bool
  has_let (Rel i) = false
  has_let (Var x) = false
  has_let (Sort s) = false
  has_let (Prod x A B) = has_let A || has_let B
  has_let (Lam x A t) = has_let A || has_let t
  has_let (Let x v A t) = true
  has_let (App f a) = has_let f || has_let a
  has_let (Const c) = false
  has_let (Ind c) = false
  has_let (Ctor c k) = false
  has_let (Elim c s) = false
  has_let (Evar n ts) = some_let ts

  pub some_let : Trees → Bool
  some_let none = false
  some_let (more t ts) = has_let t || some_let ts

-- rules that tell nothing
abbrev pub no_rules : Rules
no_rules = record { delta = λ c. None; counts = λ c. None; arguments = λ c k. None }

both_false : (a b : Bool) → (a || b) ≡ false → (a ≡ false) × (b ≡ false)
both_false false b e = (refl, e)
both_false true b e = absurd (grind (arith, e))

-- ---- what is put together has none where its parts have none

rel_lifted : (a m i : ℕ) → has_let (lifted a m i) ≡ false
rel_lifted a m i = elim (cases_lt i m) [
  | inl h ↦ ap has_let (lifted_below a m i h)
  | inr h ↦ ap has_let (lifted_above a m i h)
]

mutual
  lift_free : (a m : ℕ) (t : Tree) → has_let t ≡ false → has_let (lift a m t) ≡ false
  lift_free a m (Rel i) e = rel_lifted a m i
  lift_free a m (Var x) e = refl
  lift_free a m (Sort s) e = refl
  lift_free a m (Prod x A B) e = let q = both_false (has_let A) (has_let B) e in ap₂ (λ b c. b || c) (lift_free a m A q.0) (lift_free a (m + 1) B q.1)
  lift_free a m (Lam x A t) e = let q = both_false (has_let A) (has_let t) e in ap₂ (λ b c. b || c) (lift_free a m A q.0) (lift_free a (m + 1) t q.1)
  lift_free a m (Let x v A t) e = absurd (grind (arith, e))
  lift_free a m (App f b) e = let q = both_false (has_let f) (has_let b) e in ap₂ (λ b c. b || c) (lift_free a m f q.0) (lift_free a m b q.1)
  lift_free a m (Const c) e = refl
  lift_free a m (Ind c) e = refl
  lift_free a m (Ctor c k) e = refl
  lift_free a m (Elim c s) e = refl
  lift_free a m (Evar n ts) e = each_lift_free a m ts e

  each_lift_free : (a m : ℕ) (ts : Trees) → some_let ts ≡ false → some_let (lift_each a m ts) ≡ false
  each_lift_free a m none e = refl
  each_lift_free a m (more t ts) e = let q = both_false (has_let t) (some_let ts) e in ap₂ (λ b c. b || c) (lift_free a m t q.0) (each_lift_free a m ts q.1)

module _ (v : Tree) (h : has_let v ≡ false) where
  rel_filled : (d i : ℕ) → has_let (filled (v ∷ []) d i) ≡ false
  rel_filled d i = elim (cases_lt i d) [
    | inl b ↦ ap has_let (filled_below (v ∷ []) d i b)
    | inr b ↦ elim (cases_lt d i) [
      | inl c ↦ ap has_let (beyond_place v d i c)
      | inr c ↦ along (λ j. has_let (filled (v ∷ []) d j) ≡ false) (omega (arith, b, c)) (ap has_let (at_place v d) ∙ lift_free d 0 v h)
    ]
  ]

  mutual
    fill_free : (d : ℕ) (t : Tree) → has_let t ≡ false → has_let (fill (v ∷ []) d t) ≡ false
    fill_free d (Rel i) e = rel_filled d i
    fill_free d (Var x) e = refl
    fill_free d (Sort s) e = refl
    fill_free d (Prod x A B) e = let q = both_false (has_let A) (has_let B) e in ap₂ (λ b c. b || c) (fill_free d A q.0) (fill_free (d + 1) B q.1)
    fill_free d (Lam x A t) e = let q = both_false (has_let A) (has_let t) e in ap₂ (λ b c. b || c) (fill_free d A q.0) (fill_free (d + 1) t q.1)
    fill_free d (Let x w A t) e = absurd (grind (arith, e))
    fill_free d (App f b) e = let q = both_false (has_let f) (has_let b) e in ap₂ (λ b c. b || c) (fill_free d f q.0) (fill_free d b q.1)
    fill_free d (Const c) e = refl
    fill_free d (Ind c) e = refl
    fill_free d (Ctor c k) e = refl
    fill_free d (Elim c s) e = refl
    fill_free d (Evar n ts) e = each_fill_free d ts e

    each_fill_free : (d : ℕ) (ts : Trees) → some_let ts ≡ false → some_let (fill_each (v ∷ []) d ts) ≡ false
    each_fill_free d none e = refl
    each_fill_free d (more t ts) e = let q = both_false (has_let t) (some_let ts) e in ap₂ (λ b c. b || c) (fill_free d t q.0) (each_fill_free d ts q.1)

-- ---- contractions

beta_free : (f a u : Tree) → has_let f ≡ false → has_let a ≡ false → beta f a ≡ Some u → has_let u ≡ false
unfolding beta
beta_free (Lam x A t) a u e g h =
    let q = both_false (has_let A) (has_let t) e in
    along (λ z. has_let z ≡ false) (ap (λ o. elim o as (λ z. Tree) [ Some z ↦ z | None ↦ u ]) h) (ap has_let (subst_fill a t) ∙ fill_free a g 0 t q.1)
beta_free (Rel i) a u e g h = absurd (grind (arith, h))
beta_free (Var x) a u e g h = absurd (grind (arith, h))
beta_free (Sort s) a u e g h = absurd (grind (arith, h))
beta_free (Prod x A B) a u e g h = absurd (grind (arith, h))
beta_free (Let x v A t) a u e g h = absurd (grind (arith, h))
beta_free (App f b) a u e g h = absurd (grind (arith, h))
beta_free (Const c) a u e g h = absurd (grind (arith, h))
beta_free (Ind c) a u e g h = absurd (grind (arith, h))
beta_free (Ctor c k) a u e g h = absurd (grind (arith, h))
beta_free (Elim c s) a u e g h = absurd (grind (arith, h))
beta_free (Evar n ts) a u e g h = absurd (grind (arith, h))

contract_free : (t u : Tree) → has_let t ≡ false → contract_beta t ≡ Some u → has_let u ≡ false
unfolding contract_beta
contract_free (App f a) u e h = let q = both_false (has_let f) (has_let a) e in at q.0 q.1 (beta f a) refl h (λ g k. contract_free f g q.0 k)
  where
    inner : has_let a ≡ false → (o : Option Tree) → contract_beta f ≡ o → elim o as (λ z. Option Tree) [ Some g ↦ Some (App g a) | None ↦ None ] ≡ Some u → ((g : Tree) → contract_beta f ≡ Some g → has_let g ≡ false) → has_let u ≡ false
    inner x None p q ih = absurd (grind (arith, q))
    inner x (Some g) p q ih = along (λ z. has_let z ≡ false) (ap (λ o. elim o as (λ z. Tree) [ Some z ↦ z | None ↦ u ]) q) (ap₂ (λ b c. b || c) (ih g p) x)

    at : has_let f ≡ false → has_let a ≡ false → (o : Option Tree) → beta f a ≡ o → elim o as (λ z. Option Tree) [ Some t ↦ Some t | None ↦ elim (contract_beta f) [ Some g ↦ Some (App g a) | None ↦ None ] ] ≡ Some u →
        ((g : Tree) → contract_beta f ≡ Some g → has_let g ≡ false) → has_let u ≡ false
    at x y (Some t) p q ih = beta_free f a u x y (p ∙ q)
    at x y None p q ih = inner y (contract_beta f) refl q ih
contract_free (Rel i) u e h = absurd (grind (arith, h))
contract_free (Var x) u e h = absurd (grind (arith, h))
contract_free (Sort s) u e h = absurd (grind (arith, h))
contract_free (Prod x A B) u e h = absurd (grind (arith, h))
contract_free (Lam x A t) u e h = absurd (grind (arith, h))
contract_free (Let x v A t) u e h = absurd (grind (arith, h))
contract_free (Const c) u e h = absurd (grind (arith, h))
contract_free (Ind c) u e h = absurd (grind (arith, h))
contract_free (Ctor c k) u e h = absurd (grind (arith, h))
contract_free (Elim c s) u e h = absurd (grind (arith, h))
contract_free (Evar n ts) u e h = absurd (grind (arith, h))

no_elimination : (t : Tree) (args : List Tree) → elimination_of no_rules t args ≡ None
unfolding elimination_of
no_elimination (Elim c s) args = refl
no_elimination (Rel i) args = refl
no_elimination (Var x) args = refl
no_elimination (Sort s) args = refl
no_elimination (Prod x A B) args = refl
no_elimination (Lam x A t) args = refl
no_elimination (Let x v A t) args = refl
no_elimination (App f a) args = refl
no_elimination (Const c) args = refl
no_elimination (Ind c) args = refl
no_elimination (Ctor c k) args = refl
no_elimination (Evar n ts) args = refl

-- the contractions are the same
pub contract_same : (t : Tree) → has_let t ≡ false → contract no_rules [] t ≡ contract_beta t
unfolding contract contract_beta hypothesis elimination
contract_same (App f a) e = let q = both_false (has_let f) (has_let a) e in at (beta f a) (contract no_rules [] f) (contract_beta f) (contract_same f q.0) (elimination_of no_rules (spine f []).0 (spine f []).1) (no_elimination (spine f []).0 (spine f []).1)
  where
    at : (b o p : Option Tree) → o ≡ p → (w : Option Elimination) → w ≡ None →
        elim b as (λ z. Option Tree) [
          | Some t ↦ Some t
          | None ↦ elim o [
            | Some g ↦ Some (App g a)
            | None ↦ elim w [
              | None ↦ None
              | Some r ↦ elim (iota no_rules r a) [ Some t ↦ Some t | None ↦ elim (contract no_rules [] a) [ Some b1 ↦ Some (App f b1) | None ↦ None ] ]
            ]
          ]
        ] ≡ elim b as (λ z. Option Tree) [ Some t ↦ Some t | None ↦ elim p [ Some g ↦ Some (App g a) | None ↦ None ] ]
    at (Some t) o p h w k = refl
    at None o p h w k =
        ap {A = Option Elimination} (λ y. elim o as (λ z. Option Tree) [
          | Some g ↦ Some (App g a)
          | None ↦ elim y [
            | None ↦ None
            | Some r ↦ elim (iota no_rules r a) [ Some t ↦ Some t | None ↦ elim (contract no_rules [] a) [ Some b1 ↦ Some (App f b1) | None ↦ None ] ]
          ]
        ]) k ∙ ap {A = Option Tree} (λ y. elim y as (λ z. Option Tree) [ Some g ↦ Some (App g a) | None ↦ None ]) h
contract_same (Rel i) e = refl
contract_same (Var x) e = refl
contract_same (Sort s) e = refl
contract_same (Prod x A B) e = refl
contract_same (Lam x A t) e = refl
contract_same (Let x v A t) e = absurd (grind (arith, e))
contract_same (Const c) e = refl
contract_same (Ind c) e = refl
contract_same (Ctor c k) e = refl
contract_same (Elim c s) e = refl
contract_same (Evar n ts) e = refl

-- ---- normal forms

module _ {F : Type 0} (go gone : Tree → Paid F Tree) (same : (t : Tree) → has_let t ≡ false → go t ≡ gone t) where
  -- a contraction at the head, or the parts
  head_same : (o p : Option Tree) (r q : Paid F Tree) → o ≡ p → ((u : Tree) → p ≡ Some u → has_let u ≡ false) → r ≡ q →
      elim o as (λ z. Paid F Tree) [ Some u ↦ tick (go u) | None ↦ r ] ≡ elim p as (λ z. Paid F Tree) [ Some u ↦ tick (gone u) | None ↦ q ]
  head_same o p r q e f h = ap {A = Option Tree} (λ w. elim w as (λ z. Paid F Tree) [ Some u ↦ tick (go u) | None ↦ r ]) e ∙ at p f
    where
      at : (w : Option Tree) → ((u : Tree) → w ≡ Some u → has_let u ≡ false) →
          elim w as (λ z. Paid F Tree) [ Some u ↦ tick (go u) | None ↦ r ] ≡ elim w as (λ z. Paid F Tree) [ Some u ↦ tick (gone u) | None ↦ q ]
      at (Some u) g = ap tick (same u (g u refl))
      at None g = h

  two : (p q r s : Paid F Tree) (h : Tree → Tree → Tree) → p ≡ r → q ≡ s → (p >>= λ a. q >>= λ b. gives (h a b)) ≡ (r >>= λ a. s >>= λ b. gives (h a b))
  two p q r s h e f = ap₂ (λ x y. x >>= λ a. y >>= λ b. gives (h a b)) e f

  mutual
    unfolding normal_by normal_all

    by_same : (t : Tree) → has_let t ≡ false → normal_by (contract no_rules []) go t ≡ normal_by contract_beta gone t
    by_same (Rel i) e = head_same _ _ _ _ (contract_same (Rel i) e) (λ u k. contract_free (Rel i) u e k) refl
    by_same (Var x) e = head_same _ _ _ _ (contract_same (Var x) e) (λ u k. contract_free (Var x) u e k) refl
    by_same (Sort s) e = head_same _ _ _ _ (contract_same (Sort s) e) (λ u k. contract_free (Sort s) u e k) refl
    by_same (Prod x A B) e =
        let q = both_false (has_let A) (has_let B) e in
        head_same _ _ _ _ (contract_same (Prod x A B) e) (λ u k. contract_free (Prod x A B) u e k) (two _ _ _ _ (Prod x) (by_same A q.0) (by_same B q.1))
    by_same (Lam x A t) e =
        let q = both_false (has_let A) (has_let t) e in
        head_same _ _ _ _ (contract_same (Lam x A t) e) (λ u k. contract_free (Lam x A t) u e k) (two _ _ _ _ (Lam x) (by_same A q.0) (by_same t q.1))
    by_same (Let x v A t) e = absurd (grind (arith, e))
    by_same (App f a) e =
        let q = both_false (has_let f) (has_let a) e in
        head_same _ _ _ _ (contract_same (App f a) e) (λ u k. contract_free (App f a) u e k) (two _ _ _ _ App (by_same f q.0) (by_same a q.1))
    by_same (Const c) e = head_same _ _ _ _ (contract_same (Const c) e) (λ u k. contract_free (Const c) u e k) refl
    by_same (Ind c) e = head_same _ _ _ _ (contract_same (Ind c) e) (λ u k. contract_free (Ind c) u e k) refl
    by_same (Ctor c k) e = head_same _ _ _ _ (contract_same (Ctor c k) e) (λ u w. contract_free (Ctor c k) u e w) refl
    by_same (Elim c s) e = head_same _ _ _ _ (contract_same (Elim c s) e) (λ u k. contract_free (Elim c s) u e k) refl
    by_same (Evar n ts) e = head_same _ _ _ _ (contract_same (Evar n ts) e) (λ u k. contract_free (Evar n ts) u e k) (ap (λ p. p >>= λ us. gives (Evar n us)) (all_same ts e))

    all_same : (ts : Trees) → some_let ts ≡ false → normal_all (contract no_rules []) go ts ≡ normal_all contract_beta gone ts
    all_same none e = refl
    all_same (more t ts) e = let q = both_false (has_let t) (some_let ts) e in ap₂ (λ x y. x >>= λ u. y >>= λ us. gives (more u us)) (by_same t q.0) (all_same ts q.1)

-- the normal form where nothing is told is the beta normal form, at the same price
pub plain_normal : (F : Type 0) (n : ℕ) (t : Tree) → has_let t ≡ false → normal_form {F = F} (contract no_rules []) n t ≡ normal_form contract_beta n t
unfolding normal_form
plain_normal F zero t e = by_same (λ u. cut) (λ u. cut) (λ u k. refl) t e
plain_normal F (suc n) t e = by_same (normal_form (contract no_rules []) n) (normal_form contract_beta n) (plain_normal F n) t e
