-- Variables on which the types of others depend.
use Rattle.std.proofs.Common.{◌≡◌, ◌<◌, ◌≤◌, ◌+◌, ◌∙◌, ℕ, zero, suc, refl, sym, ap, ap₂, arith, Bool, true, false, ◌||◌, not, List, [], ◌∷◌, ◌++◌, length, get_or, drop, Option, Some, None, Result, Ok, Err}
use Rattle.std.proofs.lemmas.List.{drop_more, drop_all}
use Rattle.std.specs.Prelude.{IfOk, eqb, slice_get}
use Rattle.std.specs.List.{AllByRecursion}
use Rattle.lq_trees.specs.Tree.{Name, Tree, Trees, none, more}
use Rattle.lq_trees.specs.Tree.Tree.{Rel, Var, Sort, Prod, Lam, Let, App, Const, Ind, Ctor, Elim, Evar}
use Rattle.lq_trees.specs.Fresh.{is_listed}
use Rattle.lq_trees.specs.Hypotheses.{HoldsOnly, EachHoldsOnly}
use Rattle.lq_solving.specs.Occurs.{holds_variable, holds_variable_in}
use Rattle.lq_solving.specs.Stores.{Store, Variable, read, count, is_open, has_value}
use Rattle.lq_evars.specs.Reading.{as_read}
use Rattle.lq_unify.specs.Held.{holds_any, hold_any}
use Rattle.lq_tactics.specs.Applying.{any_depends, kind_depends}
use Rattle.lq_tactics.specs.Primitives.{independent}
use Rattle.lq_tactics.specs.Rows.{open_of}

-- ---- a term that holds the hypotheses of a context alone

module _ (xs : List Name) (k : ℕ) (m : Name → Bool) (marks : (x : Name) → m x ≡ not (is_listed xs x)) where
  mutual
    unfolding holds_any hold_any holds_variable holds_variable_in

    pub held_is : (t : Tree) → HoldsOnly xs t → holds_any k m t ≡ holds_variable k t
    held_is (Rel i) h = refl
    held_is (Var x) h = marks x ∙ ap not h
    held_is (Sort u) h = refl
    held_is (Prod x A B) h = ap₂ (λ a b. a || b) (held_is A h.0) (held_is B h.1)
    held_is (Lam x A B) h = ap₂ (λ a b. a || b) (held_is A h.0) (held_is B h.1)
    held_is (Let x v A B) h = ap₂ (λ a b. a || b) (ap₂ (λ a b. a || b) (held_is v h.0) (held_is A h.1)) (held_is B h.2)
    held_is (App f a) h = ap₂ (λ a b. a || b) (held_is f h.0) (held_is a h.1)
    held_is (Const c) h = refl
    held_is (Ind c) h = refl
    held_is (Ctor c i) h = refl
    held_is (Elim c u) h = refl
    held_is (Evar n ts) h = ap (λ b. eqb k n || b) (each_held_is ts h)

    each_held_is : (ts : Trees) → EachHoldsOnly xs ts → hold_any k m ts ≡ holds_variable_in k ts
    each_held_is none h = refl
    each_held_is (more t ts) h = ap₂ (λ a b. a || b) (held_is t h.0) (each_held_is ts h.1)

  pub read_holds : {E : Type 0} (s : Store) (t : Tree) → HoldsOnly xs (read s t) → (q : Result Bool E) → IfOk q (λ b. b ≡ holds_any k m (as_read s t)) → IfOk q (λ b. b ≡ holds_variable k (read s t))
  unfolding read
  read_holds s t h (Ok b) e = e ∙ held_is (as_read s t) h
  read_holds s t h (Err y) e = tt

-- ---- one of the variables

pub depends_by : {E : Type 0} (s : Store) (j : ℕ) (k : ℕ) (v : Variable) (t : Tree) → slice_get s.variables k ≡ Some v → t ≡ v.kind → (q : Result Bool E) → IfOk q (λ b. b ≡ holds_variable j (read s t)) → IfOk q (λ b. b ≡ kind_depends s j (slice_get s.variables k))
unfolding kind_depends
depends_by s j k v t e f (Ok b) h = h ∙ ap (λ z. holds_variable j (read s z)) f ∙ ap (kind_depends s j) (sym e)
depends_by s j k v t e f (Err y) h = tt

module _ (s : Store) (j : ℕ) (ks : List ℕ) (i : ℕ) (d : ℕ) where
  step : i < length ks → any_depends s j (drop i ks) ≡ (kind_depends s j (slice_get s.variables (get_or ks i d)) || any_depends s j (drop (i + 1) ks))
  unfolding any_depends
  step l = ap (any_depends s j) (drop_more ks i d l)

  pub depends_here : i < length ks → (b : Bool) → b ≡ kind_depends s j (slice_get s.variables (get_or ks i d)) → b ≡ true → any_depends s j ks ≡ any_depends s j (drop i ks) → true ≡ any_depends s j ks
  depends_here l b e y so_far = sym (so_far ∙ step l ∙ ap (λ z. z || any_depends s j (drop (i + 1) ks)) (sym e ∙ y))

  pub depends_later : i < length ks → (b : Bool) → b ≡ kind_depends s j (slice_get s.variables (get_or ks i d)) → b ≡ false → any_depends s j ks ≡ any_depends s j (drop i ks) → any_depends s j ks ≡ any_depends s j (drop (i + 1) ks)
  depends_later l b e y so_far = so_far ∙ step l ∙ ap (λ z. z || any_depends s j (drop (i + 1) ks)) (sym e ∙ y)

  pub depends_nowhere : length ks ≤ i → any_depends s j ks ≡ any_depends s j (drop i ks) → false ≡ any_depends s j ks
  unfolding any_depends
  depends_nowhere l so_far = sym (so_far ∙ ap (any_depends s j) (drop_all i ks l))

-- ---- those on which none depends

behind_one : (found : List ℕ) (k : ℕ) (ks : List ℕ) → (found ++ k ∷ []) ++ ks ≡ found ++ k ∷ ks
behind_one [] k ks = refl
behind_one (j ∷ found) k ks = ap (λ z. j ∷ z) (behind_one found k ks)

module _ (s : Store) (ks js : List ℕ) (i : ℕ) (d : ℕ) where
  next : i < length js → independent s ks (drop i js) ≡ elim (any_depends s (get_or js i d) ks) as (λ z. List ℕ) [ true ↦ independent s ks (drop (i + 1) js) | false ↦ get_or js i d ∷ independent s ks (drop (i + 1) js) ]
  unfolding independent
  next l = ap (independent s ks) (drop_more js i d l)

  at : i < length js → (b : Bool) → b ≡ any_depends s (get_or js i d) ks → independent s ks (drop i js) ≡ elim b as (λ z. List ℕ) [ true ↦ independent s ks (drop (i + 1) js) | false ↦ get_or js i d ∷ independent s ks (drop (i + 1) js) ]
  at l b e = next l ∙ ap (λ z. elim z as (λ w. List ℕ) [ true ↦ independent s ks (drop (i + 1) js) | false ↦ get_or js i d ∷ independent s ks (drop (i + 1) js) ]) (sym e)

  pub free_more : i < length js → (b : Bool) → b ≡ any_depends s (get_or js i d) ks → b ≡ false → (found longer all : List ℕ) → longer ≡ found ++ get_or js i d ∷ [] → found ++ independent s ks (drop i js) ≡ all → longer ++ independent s ks (drop (i + 1) js) ≡ all
  free_more l b e y found longer all is so_far =
      ap (λ z. z ++ independent s ks (drop (i + 1) js)) is ∙ behind_one found (get_or js i d) (independent s ks (drop (i + 1) js))
      ∙ ap (λ z. found ++ z) (sym (at l b e ∙ ap (λ z. elim z as (λ w. List ℕ) [ true ↦ independent s ks (drop (i + 1) js) | false ↦ get_or js i d ∷ independent s ks (drop (i + 1) js) ]) y)) ∙ so_far

  pub free_same : i < length js → (b : Bool) → b ≡ any_depends s (get_or js i d) ks → b ≡ true → (found all : List ℕ) → found ++ independent s ks (drop i js) ≡ all → found ++ independent s ks (drop (i + 1) js) ≡ all
  free_same l b e y found all so_far =
      ap (λ z. found ++ z) (sym (at l b e ∙ ap (λ z. elim z as (λ w. List ℕ) [ true ↦ independent s ks (drop (i + 1) js) | false ↦ get_or js i d ∷ independent s ks (drop (i + 1) js) ]) y)) ∙ so_far

  pub free_end : length js ≤ i → (found all : List ℕ) → found ++ independent s ks (drop i js) ≡ all → found ≡ all
  unfolding independent
  free_end l found all so_far = sym (nothing_more found) ∙ ap (λ z. found ++ independent s ks z) (sym (drop_all i js l)) ∙ so_far
    where
      nothing_more : (is : List ℕ) → is ++ [] ≡ is
      nothing_more [] = refl
      nothing_more (j ∷ is) = ap (λ z. j ∷ z) (nothing_more is)

-- what holds of all holds of those
pub free_all : (P : ℕ → Type 0) (s : Store) (ks js : List ℕ) → AllByRecursion P js → AllByRecursion P (independent s ks js)
unfolding independent
free_all P s ks [] h = tt
free_all P s ks (j ∷ js) h = at (any_depends s j ks) (free_all P s ks js h.1)
  where
    at : (b : Bool) → AllByRecursion P (independent s ks js) → AllByRecursion P (elim b as (λ z. List ℕ) [ true ↦ independent s ks js | false ↦ j ∷ independent s ks js ])
    at true k = k
    at false k = (h.0, k)

-- ---- variables without a value are variables of the store

open_inside : (s : Store) (k : ℕ) → is_open s k ≡ true → k < count s
unfolding is_open
open_inside s k e = at (slice_get s.variables k) refl e
  where
    within : (vs : List Variable) (i : ℕ) (v : Variable) → slice_get vs i ≡ Some v → i < length vs
    within [] i v f = absurd (grind (arith, f))
    within (w ∷ vs) zero v f = omega arith
    within (w ∷ vs) (suc i) v f = omega (arith, within vs i v f)

    at : (o : Option Variable) → slice_get s.variables k ≡ o → elim o as (λ z. Bool) [ None ↦ false | Some v ↦ not (has_value s k) ] ≡ true → k < count s
    at None f y = absurd (grind (arith, y))
    at (Some v) f y = within s.variables k v f

pub open_all : (s : Store) (ks : List ℕ) → AllByRecursion (λ k. k < count s) (open_of s ks)
unfolding open_of
open_all s [] = tt
open_all s (k ∷ ks) = at (is_open s k) refl (open_all s ks)
  where
    at : (b : Bool) → is_open s k ≡ b → AllByRecursion (λ k. k < count s) (open_of s ks) → AllByRecursion (λ k. k < count s) (elim b as (λ z. List ℕ) [ true ↦ k ∷ open_of s ks | false ↦ open_of s ks ])
    at true e h = (open_inside s k e, h)
    at false e h = h
