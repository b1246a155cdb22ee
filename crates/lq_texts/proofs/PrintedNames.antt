-- The printed names of a term are words.
use Rattle.std.proofs.Common.{◌≡◌, ℕ, ◌+◌, ◌^◌, ◌<◌, ◌≤◌, Bool, true, false, List, [], ◌∷◌, ◌++◌, length, refl, sym, ap, ◌∙◌, subst, arith, inl, inr, length-append}
use Rattle.std.specs.Prelude.{◌⊎◌, ◌||◌, ◌==◌, slice_get, codes}
use Rattle.std.specs.List.{AllByRecursion}
use Rattle.std.proofs.lemmas.Slice.Eq.{bytes_eq-Decides}
use Rattle.lq_trees.specs.Tree.{Name, Tree, same_name}
use Rattle.lq_trees.specs.Fresh.{is_listed, fresh_of}
use Rattle.lq_calculus.specs.Declarations.{Env}
use Rattle.lq_grammar.proofs.Computing.{cutting}
use Rattle.lq_texts.specs.Printing.{uses, names_in, own_name, printed_name}
use Rattle.lq_texts.specs.ReadBack.{IsPlainName, IsPlainBinder}
use Rattle.lq_texts.proofs.NameLexing.{IsLexed}
use Rattle.lq_texts.proofs.Runs.{run_end}
use Rattle.lq_texts.proofs.PrintedPieces.{IsWord, IsBinder}
use Rattle.lq_texts.proofs.PlainNames.{lexed_of}
use Rattle.lq_texts.proofs.NumberedNames.{numbered_word}
use Rattle.lq_texts.proofs.FreshNames.{fresh_is}

-- ---- plain names are words

pub plain_word : (x : Name) → IsPlainName x → IsWord x
plain_word x h = by x (lexed_of x h.identifier (omega (arith, h.short))) h.free
  where
    by : (x : Name) → IsLexed x → Rattle.lq_grammar.specs.Selectors.is_reserved x ≡ false → IsWord x
    by [] l f = let b = l.begins in absurd cc
    by (b ∷ bs) l f = record { lexed = l; free = f }

pub word_x : IsWord (codes "x")
unfolding cutting
word_x = record { lexed = record { initial = 120; begins = refl; named = refl; others = run_end; short = omega arith }; free = refl }

-- a binder's own name
pub own_word : (x : Name) → IsPlainBinder x → IsWord (own_name x) × (length (own_name x) ≤ 200)
unfolding own_name
own_word [] h = (word_x, omega arith)
own_word (b ∷ bs) h = (plain_word (b ∷ bs) h, h.short)

pub word_binder : (x : Name) → IsWord x → IsBinder x
word_binder [] h = tt
word_binder (b ∷ bs) h = h

-- ---- names in lists

pub or_true : (a b : Bool) → (a || b) ≡ true → (a ≡ true) ⊎ (b ≡ true)
or_true true b e = inl refl
or_true false b e = inr e

pub or_first : (a b : Bool) → a ≡ true → (a || b) ≡ true
or_first true b e = refl
or_first false b e = absurd cc

pub or_second : (a b : Bool) → b ≡ true → (a || b) ≡ true
or_second true b e = refl
or_second false b e = e

pub listed_append : (xs ys : List Name) (y : Name) → is_listed (xs ++ ys) y ≡ true → (is_listed xs y ≡ true) ⊎ (is_listed ys y ≡ true)
unfolding is_listed
listed_append [] ys y e = inr e
listed_append (x ∷ xs) ys y e =
    elim (or_true (same_name x y) _ e) [
      | inl f ↦ inl (or_first (same_name x y) _ f)
      | inr f ↦ elim (listed_append xs ys y f)
          [ inl g ↦ inl (or_second (same_name x y) _ g) | inr g ↦ inr g ]
    ]

pub append_listed : (xs ys : List Name) (y : Name) → (is_listed xs y ≡ true) ⊎ (is_listed ys y ≡ true) → is_listed (xs ++ ys) y ≡ true
unfolding is_listed
append_listed [] ys y (inl e) = absurd cc
append_listed [] ys y (inr e) = e
append_listed (x ∷ xs) ys y (inl e) =
    elim (or_true (same_name x y) _ e) [ inl f ↦ or_first (same_name x y) _ f | inr f ↦ or_second (same_name x y) _ (append_listed xs ys y (inl f)) ]
append_listed (x ∷ xs) ys y (inr e) = or_second (same_name x y) _ (append_listed xs ys y (inr e))

-- all names of the one list are names of the other
abbrev pub Held : List Name → List Name → Type 0
Held names xs = AllByRecursion (λ x. is_listed names x ≡ true) xs

pub held_listed : (names xs : List Name) (y : Name) → Held names xs → is_listed xs y ≡ true → is_listed names y ≡ true
unfolding is_listed
held_listed names [] y h e = absurd cc
held_listed names (x ∷ xs) y h e =
    elim (or_true (same_name x y) _ e) [ inl f ↦ ap (is_listed names) (sym ((bytes_eq-Decides x y).0 f)) ∙ h.0 | inr f ↦ held_listed names xs y h.1 f ]

pub held_left : (names xs ys : List Name) → Held names (xs ++ ys) → Held names xs
held_left names [] ys h = tt
held_left names (x ∷ xs) ys h = (h.0, held_left names xs ys h.1)

pub held_right : (names xs ys : List Name) → Held names (xs ++ ys) → Held names ys
held_right names [] ys h = h
held_right names (x ∷ xs) ys h = held_right names xs ys h.1

-- ---- binders

-- the printed name of a binder is a word where it is used, and none else
pub printed_word : (env : Env) (names bs : List Name) (x : Name) (body : Tree) → IsPlainBinder x → Held names (names_in env body) →
    length names + length bs < 2 ^ 64 →
    (uses 0 body ≡ true → IsWord (printed_name env bs x body)) × IsBinder (printed_name env bs x body)
unfolding printed_name
printed_word env names bs x body plain held few = by (uses 0 body) refl
  where
    within : (y : Name) → is_listed (names_in env body ++ bs) y ≡ true → is_listed (names ++ bs) y ≡ true
    within y e = elim (listed_append (names_in env body) bs y e)
        [ inl f ↦ append_listed names bs y (inl (held_listed names (names_in env body) y held f)) | inr f ↦ append_listed names bs y (inr f) ]

    fresh_word : (fresh_of (names_in env body ++ bs) (own_name x) ≡ own_name x) ⊎
        ((k : ℕ) × (k < 2 ^ 64) × (fresh_of (names_in env body ++ bs) (own_name x) ≡ own_name x ++ Rattle.std.specs.Prelude.decimal k)) →
        IsWord (fresh_of (names_in env body ++ bs) (own_name x))
    fresh_word (inl e) = subst IsWord (sym e) (own_word x plain).0
    fresh_word (inr e) = let own = own_word x plain in subst IsWord (sym e.2) (numbered_word (own_name x) e.0 own.0.lexed own.1 e.1)

    word : IsWord (fresh_of (names_in env body ++ bs) (own_name x))
    word = fresh_word (fresh_is (names_in env body ++ bs) (names ++ bs) (own_name x) within (omega (arith, length-append names bs, few)))

    by : (b : Bool) → uses 0 body ≡ b →
        (b ≡ true → IsWord (elim b as (λ _. Name) [ true ↦ fresh_of (names_in env body ++ bs) (own_name x) | false ↦ [] ])) × IsBinder
        (elim b as (λ _. Name) [ true ↦ fresh_of (names_in env body ++ bs) (own_name x) | false ↦ [] ])
    by true e = (λ f. word, word_binder _ word)
    by false e = (λ f. absurd cc, tt)
