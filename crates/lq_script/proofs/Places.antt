-- The place of a name in a list of names.
use Rattle.std.proofs.Common.{◌≡◌, ℕ, suc, ◌<◌, refl, sym, ◌∙◌, ap, List, [], ◌∷◌, ◌++◌, length, Option, Some, None, Bool, true, false, ◌||◌, arith}
use Rattle.std.proofs.Common.{subst as along}
use Rattle.std.specs.Prelude.{slice_get, is_some}
use Rattle.std.proofs.lemmas.Bool.{false_from_ne_true}
use Rattle.lq_trees.specs.Tree.{Name, Tree, Hypothesis, Context, same_name}
use Rattle.lq_trees.specs.Change.{close_at}
use Rattle.lq_trees.specs.Fresh.{is_listed}
use Rattle.lq_calculus.specs.Contraction.{hypothesis}
use Rattle.lq_calculus.proofs.ConvSound.{same_name_is}
use Rattle.lq_output.specs.Steps.{binder_of}
use Rattle.lq_script.specs.Introduced.{names_of}
use Rattle.lq_script.specs.Places.{next_place}
use Rattle.lq_script.proofs.Simples.{same_self}

pub place_next : (b : Name) (bs : List Name) (x : Name) → binder_of (b ∷ bs) x ≡ next_place (same_name b x) (binder_of bs x)
unfolding binder_of
place_next b bs x = go (same_name b x) (binder_of bs x)
  where
    go : (c : Bool) (o : Option ℕ) → elim c [ true ↦ Some 0 | false ↦ elim o [ None ↦ None | Some i ↦ Some (suc i) ] ] ≡ next_place c o
    go true o = refl
    go false None = refl
    go false (Some i) = refl

-- a place, else that of the last name
abbrev pub or_last : Option ℕ → Bool → ℕ → Option ℕ
or_last (Some i) b n = Some i
or_last None true n = Some n
or_last None false n = None

pub place_more : (xs : List Name) (x z : Name) → binder_of (xs ++ (x ∷ [])) z ≡ or_last (binder_of xs z) (same_name x z) (length xs)
unfolding binder_of
place_more [] x z = place_next x [] z ∙ go (same_name x z)
  where
    go : (b : Bool) → next_place b None ≡ or_last None b 0
    go true = refl
    go false = refl
place_more (y ∷ ys) x z =
    place_next y (ys ++ (x ∷ [])) z
    ∙ ap (next_place (same_name y z)) (place_more ys x z)
    ∙ go (same_name y z) (binder_of ys z) (same_name x z)
    ∙ ap (λ o. or_last o (same_name x z) (length (y ∷ ys))) (sym (place_next y ys z))
  where
    go : (b : Bool) (o : Option ℕ) (c : Bool) → next_place b (or_last o c (length ys)) ≡ or_last (next_place b o) c (suc (length ys))
    go true o c = refl
    go false (Some i) c = refl
    go false None true = refl
    go false None false = refl

-- a name is listed where it has a place
pub listed_place : (xs : List Name) (x : Name) → is_listed xs x ≡ is_some (binder_of xs x)
unfolding is_listed binder_of
listed_place [] x = refl
listed_place (y ∷ ys) x = ap (λ b. same_name y x || b) (listed_place ys x) ∙ go (same_name y x) (binder_of ys x) ∙ ap is_some (sym (place_next y ys x))
  where
    go : (b : Bool) (o : Option ℕ) → (b || is_some o) ≡ is_some (next_place b o)
    go true o = refl
    go false None = refl
    go false (Some i) = refl

pub no_place : (z : Name) (i : ℕ) → binder_of [] z ≡ Some i → ⊥
unfolding binder_of
no_place z i e = cc

pub place_within : (xs : List Name) (z : Name) (i : ℕ) → binder_of xs z ≡ Some i → i < length xs
place_within [] z i e = absurd (no_place z i e)
place_within (y ∷ ys) z i e = go (same_name y z) (binder_of ys z) (λ k p. place_within ys z k p) (sym (place_next y ys z) ∙ e)
  where
    go : (b : Bool) (o : Option ℕ) → ((k : ℕ) → o ≡ Some k → k < length ys) → next_place b o ≡ Some i → i < suc (length ys)
    go true o ih p = let q : 0 ≡ i = cc in omega arith
    go false None ih p = absurd cc
    go false (Some k) ih p = let q : suc k ≡ i = cc in omega (arith, ih k refl)

pub place_last : (xs : List Name) (x z : Name) (i : ℕ) → x ≡ z → is_listed xs x ≡ false → binder_of (xs ++ (x ∷ [])) z ≡ Some i → i ≡ length xs
place_last xs x z i same new at =
    go (binder_of xs z) (same_name x z) (sym (listed_place xs z) ∙ ap (is_listed xs) (sym same) ∙ new) (ap (same_name x) (sym same) ∙ same_self x) (sym (place_more xs x z) ∙ at)
  where
    go : (o : Option ℕ) (b : Bool) → is_some o ≡ false → b ≡ true → or_last o b (length xs) ≡ Some i → i ≡ length xs
    go None true n t p = cc
    go None false n t p = absurd cc
    go (Some k) b n t p = absurd cc

pub place_before : (xs : List Name) (x z : Name) (i : ℕ) → same_name x z ≡ false → binder_of (xs ++ (x ∷ [])) z ≡ Some i → binder_of xs z ≡ Some i
place_before xs x z i e at = go (binder_of xs z) (ap (λ b. or_last (binder_of xs z) b (length xs)) (sym e) ∙ sym (place_more xs x z) ∙ at)
  where
    go : (o : Option ℕ) → or_last o false (length xs) ≡ Some i → o ≡ Some i
    go (Some k) p = p
    go None p = cc

-- closing that name, and another
pub closes_self : (x z : Name) (d : ℕ) → x ≡ z → close_at x d (Tree.Var z) ≡ Tree.Rel d
closes_self x z d e = ap (λ y. close_at x d (Tree.Var y)) (sym e) ∙ self
  where
    self : close_at x d (Tree.Var x) ≡ Tree.Rel d
    self = rw (same_self x) refl

pub closes_other : (x z : Name) (d : ℕ) → same_name x z ≡ false → close_at x d (Tree.Var z) ≡ Tree.Var z
closes_other x z d e =
    let other : same_name z x ≡ false = false_from_ne_true (same_name z x) (λ t. let same : z ≡ x = same_name_is z x t in let one : same_name x z ≡ same_name x x = ap (same_name x) same in let self : same_name x x ≡ true = same_self x in cc) in
    rw other refl

-- the hypothesis of a name stands at its place
pub place_hypothesis : (g : Context) (x : Name) (i : ℕ) → binder_of (names_of g) x ≡ Some i → hypothesis g x ≡ slice_get g i
unfolding hypothesis
place_hypothesis [] x i e = absurd (no_place x i e)
place_hypothesis (h ∷ g) x i e =
    go (same_name h.name x) (binder_of (names_of g) x) (λ k p. place_hypothesis g x k p) (sym (place_next h.name (names_of g) x) ∙ e)
  where
    go : (b : Bool) (o : Option ℕ) → ((k : ℕ) → o ≡ Some k → hypothesis g x ≡ slice_get g k) → next_place b o ≡ Some i → elim b [ true ↦ Some h | false ↦ hypothesis g x ] ≡ slice_get (h ∷ g) i
    go true o ih p = let q : 0 ≡ i = cc in along (λ j. Some h ≡ slice_get (h ∷ g) j) q refl
    go false None ih p = absurd cc
    go false (Some k) ih p = let q : suc k ≡ i = cc in along (λ j. hypothesis g x ≡ slice_get (h ∷ g) j) q (ih k refl)

pub no_hypothesis : (g : Context) (x : Name) → binder_of (names_of g) x ≡ None → hypothesis g x ≡ None
unfolding hypothesis
no_hypothesis [] x e = refl
no_hypothesis (h ∷ g) x e = go (same_name h.name x) (binder_of (names_of g) x) (λ p. no_hypothesis g x p) (sym (place_next h.name (names_of g) x) ∙ e)
  where
    go : (b : Bool) (o : Option ℕ) → (o ≡ None → hypothesis g x ≡ None) → next_place b o ≡ None → ◌≡◌ {A = Option Hypothesis} (elim b [ true ↦ Some h | false ↦ hypothesis g x ]) None
    go true o ih p = cc
    go false None ih p = ih refl
    go false (Some k) ih p = cc
