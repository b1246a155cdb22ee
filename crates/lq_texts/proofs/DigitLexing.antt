-- A digit of a printed term is one token.
use Rattle.std.proofs.Common.{◌≡◌, ℕ, zero, suc, ◌+◌, ◌-◌, ◌*◌, ◌^◌, ◌<◌, ◌≤◌, Bool, true, false, List, ◌∷◌, ◌++◌, drop, length, refl, ap, ◌∙◌, arith, inl, inr}
use Rattle.std.specs.Prelude.{decimal}
use Rattle.std.specs.Char.{is_ascii_digit}
use Rattle.lq_grammar.specs.declared.token.Class.TheVariants as class
use Rattle.lq_grammar.specs.declared.token.TokenKind.TheVariants as kind
use Rattle.lq_grammar.specs.Cells.{Cells, letter, place, front, past, goes_on, view}
use Rattle.lq_grammar.specs.Tokens.{word, continues_name, value_from, number_by, class_of, found_at, found}
use Rattle.lq_grammar.proofs.CellLaws.{place-view}
use Rattle.lq_grammar.proofs.Computing.{cutting}
use Rattle.lq_texts.proofs.Fronts.{Shows, shows_ascii, shown_front, drop_next}
use Rattle.lq_texts.proofs.NameLexing.{FoundTo}
use Rattle.lq_texts.proofs.Runs.{IsEnd, end_blank, end_close, end_comma, end_ascii}
use Rattle.lq_texts.proofs.Runs.{past_yes, past_stays}
use Rattle.lq_texts.proofs.SignLexing.{beyond_bound}

-- ---- a digit

pub number_at_is : (p c : ℕ) (cs : Cells) → found_at class.Number p c cs ≡ number_by p (value_from 0 (letter p c cs)) (past is_ascii_digit (letter p c cs))
unfolding found_at
number_at_is p c cs = refl

pub digit_value : (c p : ℕ) (cs : Cells) → is_ascii_digit c ≡ true → value_from 0 (letter p c cs) ≡ value_from (c - 48) cs
unfolding value_from
digit_value c p cs e = step (is_ascii_digit c) e
  where
    zero_more : 10 * 0 + (c - 48) ≡ c - 48
    zero_more = omega arith

    step : (b : Bool) → b ≡ true → elim b as (λ _. ℕ) [ true ↦ value_from (10 * 0 + (c - 48)) cs | false ↦ 0 ] ≡ value_from (c - 48) cs
    step true f = ap (λ m. value_from m cs) zero_more
    step false f = absurd cc

pub number_ends : (p n : ℕ) (rest : Cells) → n < 10 → goes_on continues_name rest ≡ false → continues_name (front rest) ≡ false →
    number_by p n rest ≡ word (record { kind = kind.Number n; start = p; end = place rest }) rest
unfolding number_by
number_ends p n rest h g f = let low : n < 2 ^ 128 = omega arith in rw (Rattle.std.proofs.lemmas.Bool.lt-leb (2 ^ 128) n low, g, f) refl

-- a digit before a character that is none and goes on with no name
pub digit_by : (c n p : ℕ) (cs : Cells) → ((d : ℕ) → class_of false c d ≡ class.Number) → is_ascii_digit c ≡ true → c - 48 ≡ n → n < 10 →
    value_from n cs ≡ n → past is_ascii_digit cs ≡ cs → goes_on continues_name cs ≡ false → continues_name (front cs) ≡ false →
    found false (letter p c cs) ≡ word (record { kind = kind.Number n; start = p; end = place cs }) cs
unfolding found
digit_by c n p cs class_is digit value small v r g f =
    ap (λ k. found_at k p c cs) (class_is (front cs)) ∙ as_number ∙ ap (λ m. number_by p m (past is_ascii_digit (letter p c cs))) value_is
    ∙ ap (number_by p n) rest_is ∙ whole
  where
    as_number : found_at class.Number p c cs ≡ number_by p (value_from 0 (letter p c cs)) (past is_ascii_digit (letter p c cs))
    as_number = number_at_is p c cs

    value_is : value_from 0 (letter p c cs) ≡ n
    value_is = digit_value c p cs digit ∙ ap (λ m. value_from m cs) value ∙ v

    rest_is : past is_ascii_digit (letter p c cs) ≡ cs
    rest_is = past_yes is_ascii_digit p c cs digit ∙ r

    whole : number_by p n cs ≡ word (record { kind = kind.Number n; start = p; end = place cs }) cs
    whole = number_ends p n cs (omega arith) g f

-- what stands behind a digit
pub digit_end : (d : ℕ) → IsEnd d → (is_ascii_digit d ≡ false) × (continues_name d ≡ false)
unfolding cutting
digit_end d end_blank = (refl, refl)
digit_end d end_close = (refl, refl)
digit_end d end_comma = (refl, refl)

pub value_stays : (n L : ℕ) (text : List ℕ) (at c : ℕ) → Shows L text at c 1 → is_ascii_digit c ≡ false → value_from n (view L text at) ≡ n
unfolding value_from
value_stays n L text at c (inl s) e = ap (value_from n) s.1 ∙ step (is_ascii_digit c) e
  where
    step : (b : Bool) → b ≡ false → elim b as (λ _. ℕ) [ true ↦ value_from (10 * n + (c - 48)) (view L text (at + 1)) | false ↦ n ] ≡ n
    step true f = absurd cc
    step false f = refl
value_stays n L text at c (inr s) e = ap (value_from n) s.1

pub digit_found : (L : ℕ) (text : List ℕ) (at c n d : ℕ) (more : List ℕ) → drop at text ≡ c ∷ d ∷ more → c < 128 → IsEnd d →
    ((d : ℕ) → class_of false c d ≡ class.Number) → is_ascii_digit c ≡ true → c - 48 ≡ n → n < 10 →
    FoundTo L text at (at + 1) (kind.Number n)
digit_found L text at c n d more e low h class_is digit value small = by (shows_ascii L text at c (d ∷ more) e low)
  where
    next : Shows L text (at + 1) d 1
    next = shows_ascii L text (at + 1) d more (drop_next text at 1 (c ∷ d ∷ more) e) (end_ascii d h)

    stays : (past is_ascii_digit (view L text (at + 1)) ≡ view L text (at + 1)) × (goes_on is_ascii_digit (view L text (at + 1)) ≡ false)
    stays = past_stays is_ascii_digit L text (at + 1) d 1 next (digit_end d h).0

    named : (past continues_name (view L text (at + 1)) ≡ view L text (at + 1)) × (goes_on continues_name (view L text (at + 1)) ≡ false)
    named = past_stays continues_name L text (at + 1) d 1 next (digit_end d h).1

    by : Shows L text at c 1 → FoundTo L text at (at + 1) (kind.Number n)
    by (inr v) = inr (v.0, inl (ap (found false) v.1 ∙ beyond_bound at c))
    by (inl v) =
        inl (
          v.0,
          ap (found false) v.1
              ∙ digit_by c n at (view L text (at + 1)) class_is digit value small (value_stays n L text (at + 1) d next (digit_end d h).0) stays.0 named.1
              (ap continues_name (shown_front L text (at + 1) d 1 next) ∙ (digit_end d h).1)
              ∙ ap (λ q. word (record { kind = kind.Number n; start = at; end = q }) (view L text (at + 1))) (place-view L text (at + 1)),
        )

-- a number of one digit that is a level of `Type`
pub level_found : (L : ℕ) (text : List ℕ) (at n d : ℕ) (more : List ℕ) → n ≤ 3 → IsEnd d → drop at text ≡ decimal n ++ (d ∷ more) →
    FoundTo L text at (at + length (decimal n)) (kind.Number n)
unfolding cutting Rattle.std.specs.Fmt.digits
level_found L text at zero d more h i e = digit_found L text at 48 0 d more e (omega arith) i (λ d. refl) refl refl (omega arith)
level_found L text at (suc zero) d more h i e = digit_found L text at 49 1 d more e (omega arith) i (λ d. refl) refl refl (omega arith)
level_found L text at (suc (suc zero)) d more h i e = digit_found L text at 50 2 d more e (omega arith) i (λ d. refl) refl refl (omega arith)
level_found L text at (suc (suc (suc zero))) d more h i e = digit_found L text at 51 3 d more e (omega arith) i (λ d. refl) refl refl (omega arith)
level_found L text at (suc (suc (suc (suc n)))) d more h i e = absurd (omega arith)
