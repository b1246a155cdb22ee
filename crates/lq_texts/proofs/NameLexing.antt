-- A name before a blank, a bracket or a comma is one token.
use Rattle.std.proofs.Common.{◌≡◌, ℕ, ◌+◌, ◌-◌, ◌<◌, ◌≤◌, false, List, [], ◌∷◌, ◌++◌, drop, length, length-drop, Option, Some, None, refl, sym, ap, ◌∙◌, subst, arith, inl, inr}
use Rattle.std.specs.Prelude.{◌⊎◌}
use Rattle.std.proofs.lemmas.Bool.{le-ltb}
use Rattle.std.proofs.lemmas.List.{drop-append-le}
use Rattle.bstr.specs.Utf8.{decoded}
use Rattle.lq_grammar.specs.declared.token.Class.TheVariants as class
use Rattle.lq_grammar.specs.declared.token.TokenKind.{TokenKind}
use Rattle.lq_grammar.specs.declared.token.TokenKind.TheVariants as kind
use Rattle.lq_grammar.specs.Cells.{Cells, beyond, letter, place, front, past, view}
use Rattle.lq_grammar.specs.Tokens.{Found, bound, word, crossing, continues_name, longest_name, name_at, class_of, found_at, found}
use Rattle.lq_grammar.proofs.CellLaws.{place-view}
use Rattle.lq_grammar.proofs.Computing.{cutting}
use Rattle.lq_texts.proofs.Fronts.{decoded_more, decoded_ascii, Shows, shows_in, shows_ascii, shown_front, drop_next}
use Rattle.lq_texts.proofs.Runs.{IsEnd, end_ascii, end_stops, Run, size_within, RunsTo, run_to, end_blank, end_close, end_comma, run_end, run_more}

-- ---- what a name is made of

-- the character that some bytes begin with, 0 where they begin with none
abbrev pub char_of : Option ℕ → ℕ
char_of None = 0
char_of (Some c) = c

abbrev pub first_char : List ℕ → ℕ
first_char bs = char_of (decoded bs).char

-- the first character begins a name, the others go on with it, and it is not too long
pub record IsLexed (x : List ℕ) : Type 0 where
  pub initial : ℕ
  pub begins : (decoded x).char ≡ Some initial
  pub named : class_of false initial (first_char (drop (decoded x).size x)) ≡ class.Name
  pub others : Run continues_name (drop (decoded x).size x)
  pub short : length x ≤ longest_name

-- behind a name stands what the first character of a name may stand before
class_end : (c d : ℕ) → IsEnd d → class_of false c 0 ≡ class_of false c d
unfolding cutting
class_end c d end_blank = refl
class_end c d end_close = refl
class_end c d end_comma = refl

class_first : (c d : ℕ) → IsEnd d → (r more : List ℕ) → class_of false c (first_char r) ≡ class.Name → Run continues_name r →
    class_of false c (first_char (r ++ (d ∷ more))) ≡ class.Name
class_first c d e [] more h run_end = ap (class_of false c) (ap char_of (decoded_ascii d more (end_ascii d e)).0) ∙ sym (class_end c d e) ∙ h
class_first c d e (b ∷ bs) more h (run_more {c = x} f g r) = ap (class_of false c) (ap char_of (ap (λ y. y.char) (decoded_more (b ∷ bs) (d ∷ more) x f))) ∙ h
class_first c d e [] more h (run_more f g r) = absurd cc

-- found at the front: the token, or only a bound
abbrev pub Stopped : Found → Type 0
Stopped f = (f ≡ bound) ⊎ ((k : TokenKind) × (f ≡ crossing k))

-- a token that ends within the bound is found, one that ends behind it is not
abbrev pub FoundTo : ℕ → List ℕ → ℕ → ℕ → TokenKind → Type 0
FoundTo L text at stop k =
    ((stop ≤ L) × (found false (view L text at) ≡ word (record { kind = k; start = at; end = stop }) (view L text stop)))
    ⊎ ((L < stop) × Stopped (found false (view L text at)))

name_by : (L : ℕ) (text : List ℕ) (at from stop : ℕ) → stop - at ≤ longest_name → RunsTo continues_name L text from stop →
    ((stop ≤ L) × (name_at at (view L text from) ≡ word (record { kind = kind.Name; start = at; end = stop }) (view L text stop))) ⊎
    ((L < stop) × (name_at at (view L text from) ≡ crossing kind.Name))
unfolding name_at
name_by L text at from stop short (inl r) =
    inl (r.0, rw r.1 (rw (place-view L text stop, le-ltb longest_name (stop - at) short, r.2) refl))
name_by L text at from stop short (inr r) =
    let small : place (past continues_name (view L text from)) - at ≤ longest_name = omega (arith, r.2, short) in
    inr (r.0, rw (le-ltb longest_name (place (past continues_name (view L text from)) - at) small, r.1) refl)

found_letter : (p c : ℕ) (cs : Cells) → found false (letter p c cs) ≡ found_at (class_of false c (front cs)) p c cs
unfolding found
found_letter p c cs = refl

found_beyond : (p c : ℕ) → found false (beyond p c) ≡ bound
unfolding found
found_beyond p c = refl

at_name : (p c : ℕ) (cs : Cells) → found_at class.Name p c cs ≡ name_at p cs
unfolding found_at
at_name p c cs = refl

front_next : (L : ℕ) (text : List ℕ) (at d : ℕ) (r more : List ℕ) → IsEnd d → Run continues_name r → drop at text ≡ r ++ (d ∷ more) →
    front (view L text at) ≡ first_char (r ++ (d ∷ more))
front_next L text at d [] more h run_end e =
    shown_front L text at d 1 (shows_ascii L text at d more e (end_ascii d h)) ∙ sym (ap char_of (decoded_ascii d more (end_ascii d h)).0)
front_next L text at d r more h (run_more {c = c} f g rest) e =
    shown_front L text at c (decoded r).size (shows_in L text at r (d ∷ more) c e f) ∙ sym (ap char_of (ap (λ y. y.char) (decoded_more r (d ∷ more) c f) ∙ f))

-- a name before a blank, a bracket or a comma
pub name_found : (L : ℕ) (text : List ℕ) (at d : ℕ) (x more : List ℕ) → IsEnd d → IsLexed x → drop at text ≡ x ++ (d ∷ more) →
    FoundTo L text at (at + length x) kind.Name
name_found L text at d x more h l e = by (shows_in L text at x (d ∷ more) l.initial e l.begins)
  where
    n : ℕ
    n = (decoded x).size

    sizes : (1 ≤ n) × (n ≤ length x)
    sizes = size_within x l.initial l.begins

    behind : drop (at + n) text ≡ drop n x ++ (d ∷ more)
    behind = drop_next text at n (x ++ (d ∷ more)) e ∙ drop-append-le n x (d ∷ more) sizes.1

    class_is : class_of false l.initial (front (view L text (at + n))) ≡ class.Name
    class_is = ap (class_of false l.initial) (front_next L text (at + n) d (drop n x) more h l.others behind)
        ∙ class_first l.initial d h (drop n x) more l.named l.others

    by : Shows L text at l.initial n → FoundTo L text at (at + length x) kind.Name
    by (inr s) = inr (omega (arith, s.0, sizes.1), inl (ap (found false) s.1 ∙ found_beyond at l.initial))
    by (inl s) =
        let len = length-drop n x in
        let same : at + n + length (drop n x) ≡ at + length x = omega (arith, sizes.1, len) in
        let runs = subst (λ stop. RunsTo continues_name L text (at + n) stop) same
        (run_to continues_name L text (at + n) d (drop n x) more l.others s.0 behind (end_ascii d h) (end_stops d h)) in
        let here =
        ap (found false) s.1 ∙ found_letter at l.initial _ ∙ ap (λ k. found_at k at l.initial (view L text (at + n))) class_is ∙ at_name at l.initial _ in
        let small : at + length x - at ≤ longest_name = omega (arith, l.short) in
        told here (name_by L text at (at + n) (at + length x) small runs)
      where
        told : found false (view L text at) ≡ name_at at (view L text (at + n)) →
            ((at + length x ≤ L) ×
            (name_at at (view L text (at + n)) ≡ word (record { kind = kind.Name; start = at; end = at + length x }) (view L text (at + length x)))) ⊎
            ((L < at + length x) × (name_at at (view L text (at + n)) ≡ crossing kind.Name)) →
            FoundTo L text at (at + length x) kind.Name
        told here (inl r) = inl (r.0, here ∙ r.1)
        told here (inr r) = inr (r.0, inr (kind.Name, here ∙ r.1))
