-- Texts by number, and lists of their numbers.
use Rattle.std.proofs.Common.{◌≡◌, ◌≢◌, ℕ, zero, suc, ◌<◌, Option, Some, None, List, [], ◌∷◌, ◌++◌, map, length, refl, sym, ap, ◌∙◌, subst, arith, IfSome, IfNone, inl, inr, length-append, append_assoc}
use Rattle.std.specs.Prelude.{◌⊎◌, slice_get}
use Rattle.std.proofs.lemmas.List.{map-append}
use Rattle.std.proofs.lemmas.Option.{slice_get_within, slice_get-get_or, get_or_from_slice_get, same_Some}
use Rattle.lq_trees.specs.Tree.{Name}
use Rattle.lq_print.specs.Tables.{text_at, IsText, Lengthens, AreWithin, AreApart}

-- the number of a text is one
pub one_number : (ts : List Name) (i j : ℕ) (x : Name) → AreApart ts → IsText ts i x → IsText ts j x → i ≡ j
one_number ts i j x apart p q =
    apart i j (slice_get_within ts i x p) (slice_get_within ts j x q) (get_or_from_slice_get ts i x [] p ∙ sym (get_or_from_slice_get ts j x [] q))

-- a search finds the one number, or there is none
pub only_number : (ts : List Name) (x : Name) (r : Option ℕ) → AreApart ts → IfSome r (λ i. slice_get ts i ≡ Some x) → IfNone r ((i : ℕ) → slice_get ts i ≢ Some x) →
    (k : ℕ) → IsText ts k x → r ≡ Some k
only_number ts x (Some i) apart found absent k t = ap Some (one_number ts i k x apart found t)
only_number ts x None apart found absent k t = absurd (absent k t)

pub lengthens_self : (ts : List Name) → Lengthens ts ts
lengthens_self ts = record { more = []; is = sym (append_nil ts) }
  where
    append_nil : (ts : List Name) → ts ++ [] ≡ ts
    append_nil [] = refl
    append_nil (t ∷ ts) = ap (λ us. t ∷ us) (append_nil ts)

pub lengthens_trans : (ts us vs : List Name) → Lengthens ts us → Lengthens us vs → Lengthens ts vs
lengthens_trans ts us vs a b = record { more = a.more ++ b.more; is = b.is ∙ ap (λ z. z ++ b.more) a.is ∙ append_assoc ts a.more b.more }

text_front : (ts more : List Name) (k : ℕ) → k < length ts → text_at (ts ++ more) k ≡ text_at ts k
text_front [] more k h = absurd (omega arith)
text_front (t ∷ ts) more zero h = refl
text_front (t ∷ ts) more (suc k) h = text_front ts more k (omega arith)

-- a text keeps its number
pub text_kept : (ts us : List Name) (k : ℕ) → Lengthens ts us → k < length ts → text_at us k ≡ text_at ts k
text_kept ts us k l h = ap (λ vs. text_at vs k) l.is ∙ text_front ts l.more k h

pub within_kept : (ts us : List Name) (k : ℕ) → Lengthens ts us → k < length ts → k < length us
within_kept ts us k l h = omega (arith, ap length l.is, length-append ts l.more)

-- what is found by a number
pub text_is : (ts : List Name) (k : ℕ) (x : Name) → IsText ts k x → text_at ts k ≡ x
text_is ts k x h = get_or_from_slice_get ts k x [] h

pub text_within : (ts : List Name) (k : ℕ) (x : Name) → IsText ts k x → k < length ts
text_within ts k x h = slice_get_within ts k x h

pub is_text : (ts : List Name) (k : ℕ) → k < length ts → IsText ts k (text_at ts k)
is_text ts k h = slice_get-get_or ts k [] h

-- one text more, which is new
slice_push : (ts : List Name) (x : Name) (i : ℕ) (y : Name) → slice_get (ts ++ x ∷ []) i ≡ Some y → (slice_get ts i ≡ Some y) ⊎ ((i ≡ length ts) × (x ≡ y))
slice_push [] x zero y e = inr (refl, same_Some x y e)
slice_push [] x (suc i) y e = absurd cc
slice_push (t ∷ ts) x zero y e = inl e
slice_push (t ∷ ts) x (suc i) y e = by (slice_push ts x i y e)
  where
    by : (slice_get ts i ≡ Some y) ⊎ ((i ≡ length ts) × (x ≡ y)) → (slice_get ts i ≡ Some y) ⊎ ((suc i ≡ suc (length ts)) × (x ≡ y))
    by (inl p) = inl p
    by (inr p) = inr (ap suc p.0, p.1)

-- what a list of things tells, with one more thing
pub map_push : {X : Type 0} (f : X → Name) (xs ys : List X) (x : X) (y : Name) → ys ≡ xs ++ x ∷ [] → f x ≡ y → map f ys ≡ map f xs ++ y ∷ []
map_push f xs ys x y e g = ap (map f) e ∙ map-append f xs (x ∷ []) ∙ ap (λ (z : Name). map f xs ++ z ∷ []) g

pub last_text : (ts : List Name) (x : Name) → IsText (ts ++ x ∷ []) (length ts) x
last_text [] x = refl
last_text (t ∷ ts) x = last_text ts x

pub apart_push : (ts : List Name) (x : Name) → AreApart ts → ((i : ℕ) → slice_get ts i ≢ Some x) → AreApart (ts ++ x ∷ [])
apart_push ts x apart new i j h k e =
    by (text_at (ts ++ x ∷ []) i) (slice_push ts x i _ (slice_get-get_or (ts ++ x ∷ []) i [] h))
    (subst (λ z. (slice_get ts j ≡ Some z) ⊎ ((j ≡ length ts) × (x ≡ z))) (sym e) (slice_push ts x j _ (slice_get-get_or (ts ++ x ∷ []) j [] k)))
  where
    by : (z : Name) → (slice_get ts i ≡ Some z) ⊎ ((i ≡ length ts) × (x ≡ z)) → (slice_get ts j ≡ Some z) ⊎ ((j ≡ length ts) × (x ≡ z)) → i ≡ j
    by z (inl p) (inl q) = one_number ts i j z apart p q
    by z (inl p) (inr q) = absurd (new i (p ∙ ap Some (sym q.1)))
    by z (inr p) (inl q) = absurd (new j (q ∙ ap Some (sym p.1)))
    by z (inr p) (inr q) = p.0 ∙ sym q.0

-- ---- lists of numbers

pub within_all_kept : (ts us : List Name) (ks : List ℕ) → Lengthens ts us → AreWithin ts ks → AreWithin us ks
within_all_kept ts us [] l h = tt
within_all_kept ts us (k ∷ ks) l h = (within_kept ts us k l h.0, within_all_kept ts us ks l h.1)

pub texts_kept : (ts us : List Name) (ks : List ℕ) → Lengthens ts us → AreWithin ts ks → map (text_at us) ks ≡ map (text_at ts) ks
texts_kept ts us [] l h = refl
texts_kept ts us (k ∷ ks) l h = ap (λ x. x ∷ map (text_at us) ks) (text_kept ts us k l h.0) ∙ ap (λ xs. text_at ts k ∷ xs) (texts_kept ts us ks l h.1)
