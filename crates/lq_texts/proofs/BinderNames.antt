-- The printed binders round a term, and the hypotheses for which they stand.
use Rattle.std.proofs.Common.{◌≡◌, ℕ, zero, suc, ◌+◌, ◌^◌, ◌<◌, Bool, true, false, List, [], ◌∷◌, ◌++◌, length, Option, Some, None, refl, sym, ◌∙◌, arith, inl, inr, length-append}
use Rattle.std.specs.Prelude.{◌⊎◌, ◌||◌, slice_get, if◌then◌else◌, codes}
use Rattle.std.specs.List.{AllByRecursion}
use Rattle.lq_trees.specs.Tree.{Name, Tree, value_of, same_name}
use Rattle.lq_trees.specs.Fresh.{is_listed, fresh_of}
use Rattle.lq_calculus.specs.Declarations.{Env}
use Rattle.lq_solving.specs.Elaboration.{bind}
use Rattle.lq_texts.specs.Printing.{uses, names_in, own_name, printed_name, bound_name}
use Rattle.lq_texts.proofs.PrintedNames.{Held, held_listed, listed_append, append_listed}
use Rattle.lq_texts.proofs.FreshNames.{fresh_is, fresh_apart}
use Rattle.lq_texts.proofs.Closing.{got_listed, listed_apart, same_self}

-- ---- printed binders are apart

pub own_some : (x : Name) → own_name x ≡ [] → ⊥
unfolding own_name
own_some [] e = absurd cc
own_some (b ∷ bs) e = absurd cc

pub append_some : (x ds : Name) → (x ≡ [] → ⊥) → x ++ ds ≡ [] → ⊥
append_some [] ds h e = h refl
append_some (b ∷ bs) ds h e = absurd cc

-- a binder that is printed as nothing isn't used, another one's name is apart
abbrev pub Printed : Env → List Name → Tree → Name → Type 0
Printed env bs body y = (y ≡ [] → uses 0 body ≡ false) × ((y ≡ [] → ⊥) → is_listed (names_in env body ++ bs) y ≡ false)

pub printed_apart : (env : Env) (names bs : List Name) (x : Name) (body : Tree) → Held names (names_in env body) → length names + length bs < 2 ^ 64 →
    Printed env bs body (printed_name env bs x body)
unfolding printed_name
printed_apart env names bs x body held few = by (uses 0 body) refl
  where
    within : (y : Name) → is_listed (names_in env body ++ bs) y ≡ true → is_listed (names ++ bs) y ≡ true
    within y e =
        elim (listed_append (names_in env body) bs y e) [
          | inl f ↦ append_listed names bs y (inl (held_listed names (names_in env body) y held f))
          | inr f ↦ append_listed names bs y (inr f)
        ]

    short : length (names ++ bs) < 2 ^ 64
    short = omega (arith, length-append names bs, few)

    some : (fresh_of (names_in env body ++ bs) (own_name x) ≡ own_name x) ⊎
        ((k : ℕ) × (k < 2 ^ 64) × (fresh_of (names_in env body ++ bs) (own_name x) ≡ own_name x ++ Rattle.std.specs.Prelude.decimal k)) →
        fresh_of (names_in env body ++ bs) (own_name x) ≡ [] → ⊥
    some (inl e) f = own_some x (sym e ∙ f)
    some (inr e) f = append_some (own_name x) _ (own_some x) (sym e.2 ∙ f)

    by : (b : Bool) → uses 0 body ≡ b →
        (elim b as (λ _. Name) [ true ↦ fresh_of (names_in env body ++ bs) (own_name x) | false ↦ [] ] ≡ [] → uses 0 body ≡ false)
        × ((elim b as (λ _. Name) [ true ↦ fresh_of (names_in env body ++ bs) (own_name x) | false ↦ [] ] ≡ [] → ⊥) →
        is_listed (names_in env body ++ bs) (elim b as (λ _. Name) [ true ↦ fresh_of (names_in env body ++ bs) (own_name x) | false ↦ [] ]) ≡ false)
    by true e = (
      λ f. absurd (some (fresh_is (names_in env body ++ bs) (names ++ bs) (own_name x) within short) f),
      λ f. fresh_apart (names_in env body ++ bs) (names ++ bs) (own_name x) within short,
    )
    by false e = (λ f. e, λ f. absurd (f refl))

-- ---- what the binders round a term stand for

-- each bound variable that occurs is printed as a name that stands for the hypothesis in its place
abbrev pub Binds : List Name → List Name → List (Name × Name) → Tree → Type 0
Binds bs ys b t = (i : ℕ) → uses i t ≡ true → (y : Name) × (slice_get ys i ≡ Some y) × (value_of b (bound_name (slice_get bs i)) ≡ Some y)

-- no binder has one of those names
abbrev pub Frees : List (Name × Name) → List Name → Type 0
Frees b xs = AllByRecursion (λ x. value_of b x ≡ None) xs

pub all_left : (P : Name → Type 0) (xs ys : List Name) → AllByRecursion P (xs ++ ys) → AllByRecursion P xs
all_left P [] ys h = tt
all_left P (x ∷ xs) ys h = (h.0, all_left P xs ys h.1)

pub all_right : (P : Name → Type 0) (xs ys : List Name) → AllByRecursion P (xs ++ ys) → AllByRecursion P ys
all_right P [] ys h = h
all_right P (x ∷ xs) ys h = all_right P xs ys h.1

pub not_left : (xs ys : List Name) (y : Name) → is_listed (xs ++ ys) y ≡ false → is_listed xs y ≡ false
not_left xs ys y e = by (is_listed xs y) refl
  where
    true_false : true ≡ false → ⊥
    true_false g = absurd cc

    by : (b : Bool) → is_listed xs y ≡ b → is_listed xs y ≡ false
    by true f = absurd (true_false (sym (append_listed xs ys y (inl f)) ∙ e))
    by false f = f

pub frees_more : (b : List (Name × Name)) (y z : Name) (xs : List Name) → is_listed xs y ≡ false → Frees b xs → Frees ((y, z) ∷ b) xs
unfolding is_listed
frees_more b y z [] e h = tt
frees_more b y z (x ∷ xs) e h = let f = or_none (same_name x y) _ e in (rw f.0 h.0, frees_more b y z xs f.1 h.1)
  where
    or_none : (a c : Bool) → (a || c) ≡ false → (a ≡ false) × (c ≡ false)
    or_none true c e = absurd cc
    or_none false c e = (refl, e)

-- the name of a binder outside is not that of one inside
pub outer_name : (xs bs : List Name) (c : ℕ) (cs : Name) (i : ℕ) → is_listed (xs ++ bs) (c ∷ cs) ≡ false →
    same_name (bound_name (slice_get bs i)) (c ∷ cs) ≡ false
unfolding bound_name
outer_name xs bs c cs i e = by (slice_get bs i) refl
  where
    by : (o : Option Name) → slice_get bs i ≡ o → same_name (bound_name o) (c ∷ cs) ≡ false
    by None f = refl
    by (Some m) f = listed_apart (xs ++ bs) m (c ∷ cs) (append_listed xs bs m (inr (got_listed bs i m f))) e

pub under_binds : (env : Env) (y z : Name) (body : Tree) (bs ys : List Name) (b : List (Name × Name)) → Printed env bs body y →
    ((i : ℕ) → uses (suc i) body ≡ true → (v : Name) × (slice_get ys i ≡ Some v) × (value_of b (bound_name (slice_get bs i)) ≡ Some v)) →
    Binds (y ∷ bs) (z ∷ ys) (bind y z b) body
unfolding bind bound_name
under_binds env [] z body bs ys b p h zero e = absurd (true_false (sym e ∙ p.0 refl))
  where
    true_false : true ≡ false → ⊥
    true_false g = absurd cc
under_binds env [] z body bs ys b p h (suc i) e = h i e
under_binds env (c ∷ cs) z body bs ys b p h zero e = (z, refl, let s = same_self (c ∷ cs) in rw s refl)
under_binds env (c ∷ cs) z body bs ys b p h (suc i) e =
    let o = outer_name (names_in env body) bs c cs i (p.1 (λ f. absurd cc)) in
    let r = h i e in
    (r.0, r.1, rw o r.2)

pub under_frees : (env : Env) (y z : Name) (body : Tree) (bs : List Name) (b : List (Name × Name)) → Printed env bs body y → Frees b (names_in env body) →
    Frees (bind y z b) (names_in env body)
unfolding bind
under_frees env [] z body bs b p h = h
under_frees env (c ∷ cs) z body bs b p h = frees_more b (c ∷ cs) z (names_in env body) (not_left (names_in env body) bs (c ∷ cs) (p.1 (λ f. absurd cc))) h
