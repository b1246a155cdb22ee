-- Names, numbers, bullets and symbols, by what stands behind their characters.
use Rattle.std.proofs.Common.{◌≡◌, ℕ, ◌+◌, ◌-◌, ◌*◌, ◌^◌, ◌<◌, ◌≤◌, min, Bool, true, false, Option, Some, None, refl, sym, ap, ◌∙◌, arith, if◌then◌else◌}
use Rattle.std.specs.Prelude.{nat_lt, ◌==◌, IfSome}
use Rattle.std.proofs.lemmas.Bool.{lt-ltb, le-ltb, le-leb, lt-leb}
use Rattle.lq_grammar.specs.declared.fault.LexFault.TheVariants.{BadChar, BadNumber}
use Rattle.lq_grammar.specs.declared.token.TokenKind.{TokenKind}
use Rattle.lq_grammar.specs.declared.token.TokenKind.TheVariants as kind
use Rattle.std.specs.Char.{is_ascii_digit}
use Rattle.lq_grammar.specs.declared.token.Symbol.{Symbol}
use Rattle.lq_grammar.specs.Cells.{Cells, over, broken, beyond, letter, place, front, past, goes_on}
use Rattle.lq_grammar.specs.Tokens.{Found, crossing, flaw, word, token, continues_name, longest_name, name_at, bullet_at, value_from, number_by, pair_of, single_of, is_clear, pair_at, single_at, symbol_at}
use Rattle.lq_grammar.proofs.CellLaws.{place-view}
use Rattle.lq_lex.specs.declared.view.View.{View}
use Rattle.lq_lex.specs.declared.view.Front.{Front}
use Rattle.lq_lex.specs.declared.view.Front.TheVariants.{Over, Broken, Beyond, Letter}
use Rattle.lq_lex.specs.Views.{from, Shows, Adds, Values, IsValue, ReadsDigit}

-- a token that ends where the rest of a view begins
pub token_to : (v : View) (k : TokenKind) (start stop : ℕ) → token k start (from v stop) ≡ word (record { kind = k; start = start; end = stop }) (from v stop)
token_to v k start stop = ap (λ n. word (record { kind = k; start = start; end = n }) (from v stop)) (place-view v.limit v.text.now stop)

-- ---- names

abbrev name_of : ℕ → Cells → Found
name_of p rest =
    if nat_lt longest_name (place rest - p) then flaw (BadChar p)
    else if goes_on continues_name rest then crossing kind.Name
    else token kind.Name p rest

name_by : (p : ℕ) (cs rest : Cells) → past continues_name cs ≡ rest → name_at p cs ≡ name_of p rest
unfolding name_at
name_by p cs rest e = ap (name_of p) e

pub name_long : (v : View) (start at stop : ℕ) → past continues_name (from v at) ≡ from v stop → 255 < stop - start → name_at start (from v at) ≡ flaw (BadChar start)
name_long v start at stop e h = name_by start _ _ e ∙ rw (place-view v.limit v.text.now stop, lt-ltb longest_name (stop - start) h) refl

pub name_crosses : (v : View) (start at stop : ℕ) → past continues_name (from v at) ≡ from v stop → stop - start ≤ 255 → goes_on continues_name (from v stop) ≡ true → name_at start (from v at) ≡ crossing kind.Name
name_crosses v start at stop e h on = name_by start _ _ e ∙ rw (place-view v.limit v.text.now stop, le-ltb longest_name (stop - start) h, on) refl

pub name_ends : (v : View) (start at stop : ℕ) → past continues_name (from v at) ≡ from v stop → stop - start ≤ 255 → goes_on continues_name (from v stop) ≡ false → name_at start (from v at) ≡ word (record { kind = kind.Name; start = start; end = stop }) (from v stop)
name_ends v start at stop e h on = name_by start _ _ e ∙ rw (place-view v.limit v.text.now stop, le-ltb longest_name (stop - start) h, on) refl

-- ---- bullets

abbrev bullet_of : ℕ → ℕ → Cells → Found
bullet_of p c rest = if goes_on (λ d. d == c) rest then crossing (kind.Bullet c 5) else token (kind.Bullet c (min (place rest - p) 5)) p rest

bullet_by : (p c : ℕ) (cs rest : Cells) → past (λ d. d == c) cs ≡ rest → bullet_at p c cs ≡ bullet_of p c rest
unfolding bullet_at
bullet_by p c cs rest e = ap (bullet_of p c) e

pub bullet_crosses : (v : View) (c start at stop : ℕ) → past (λ d. d == c) (from v at) ≡ from v stop → goes_on (λ d. d == c) (from v stop) ≡ true → bullet_at start c (from v at) ≡ crossing (kind.Bullet c 5)
bullet_crosses v c start at stop e on = bullet_by start c _ _ e ∙ rw on refl

pub bullet_ends : (v : View) (c start at stop count : ℕ) → past (λ d. d == c) (from v at) ≡ from v stop → goes_on (λ d. d == c) (from v stop) ≡ false → count ≡ min (stop - start) 5 →
    bullet_at start c (from v at) ≡ word (record { kind = kind.Bullet c count; start = start; end = stop }) (from v stop)
bullet_ends v c start at stop count e on counted = bullet_by start c _ _ e ∙ rw (on, place-view v.limit v.text.now stop, counted) refl

-- ---- numbers

value_yes : (n p c : ℕ) (cs : Cells) → is_ascii_digit c ≡ true → value_from n (letter p c cs) ≡ value_from (10 * n + (c - 48)) cs
unfolding value_from
value_yes n p c cs e = chosen (is_ascii_digit c) e where
  chosen : (b : Bool) → b ≡ true → elim b as (λ _. ℕ) [ true ↦ value_from (10 * n + (c - 48)) cs | false ↦ n ] ≡ value_from (10 * n + (c - 48)) cs
  chosen true f = refl
  chosen false f = absurd cc

value_no : (n p c : ℕ) (cs : Cells) → is_ascii_digit c ≡ false → value_from n (letter p c cs) ≡ n
unfolding value_from
value_no n p c cs e = chosen (is_ascii_digit c) e where
  chosen : (b : Bool) → b ≡ false → elim b as (λ _. ℕ) [ true ↦ value_from (10 * n + (c - 48)) cs | false ↦ n ] ≡ n
  chosen true f = absurd cc
  chosen false f = refl

pub digit_read : (v : View) (at c next : ℕ) → Shows v at (Letter c next) → is_ascii_digit c ≡ true → (n : ℕ) → value_from n (from v at) ≡ value_from (10 * n + (c - 48)) (from v next)
digit_read v at c next shown e n = ap (value_from n) shown.0 ∙ value_yes n at c (from v next) e

pub digit_none : (v : View) (at c next : ℕ) → Shows v at (Letter c next) → is_ascii_digit c ≡ false → (n : ℕ) → value_from n (from v at) ≡ n
digit_none v at c next shown e n = ap (value_from n) shown.0 ∙ value_no n at c (from v next) e

pub digit_over : (v : View) (at : ℕ) (f : Front) → Shows v at f → ((c next : ℕ) → f ≡ Letter c next → ⊥) → (n : ℕ) → value_from n (from v at) ≡ n
unfolding value_from
digit_over v at Over shown never n = ap (value_from n) shown
digit_over v at Broken shown never n = ap (value_from n) shown
digit_over v at (Beyond c) shown never n = ap (value_from n) shown
digit_over v at (Letter c next) shown never n = absurd (never c next refl)

-- a number is no less than the number that its first digits give
value_grows : (n : ℕ) (cs : Cells) → n ≤ value_from n cs
unfolding value_from
value_grows n (over p) = omega arith
value_grows n (broken p) = omega arith
value_grows n (beyond p c) = omega arith
value_grows n (letter p c cs) = step (is_ascii_digit c) (value_grows (10 * n + (c - 48)) cs) where
  step : (b : Bool) → 10 * n + (c - 48) ≤ value_from (10 * n + (c - 48)) cs → n ≤ elim b as (λ _. ℕ) [ true ↦ value_from (10 * n + (c - 48)) cs | false ↦ n ]
  step true h = omega (arith, h)
  step false h = omega arith

-- one digit more
pub values_more : (old : Option ℕ) (digit : ℕ) (new : Option ℕ) (cs rest : Cells) (total : ℕ) → Adds old digit new →
    ((n : ℕ) → value_from n cs ≡ value_from (10 * n + digit) rest) → Values old cs total → Values new rest total
values_more None digit None cs rest total adds goes values = values
values_more None digit (Some m) cs rest total adds goes values = absurd cc
values_more (Some n) digit None cs rest total adds goes values = let less = value_grows (10 * n + digit) rest in omega (arith, less, goes n, values, adds)
values_more (Some n) digit (Some m) cs rest total adds goes values = rw adds (sym (goes n) ∙ values)

-- where no digit is left
pub values_end : (v : View) (at : ℕ) (value : Option ℕ) (total : ℕ) → ReadsDigit v at None → Values value (from v at) total → IfSome value (λ n. n < 2 ^ 128) → IsValue value total
values_end v at None total ends values fits = values
values_end v at (Some n) total ends values fits = (sym values ∙ ends.1 n, fits)

pub number_too_large : (p total : ℕ) (rest : Cells) → 2 ^ 128 ≤ total → number_by p total rest ≡ flaw (BadNumber p)
unfolding number_by
number_too_large p total rest h = rw (le-leb (2 ^ 128) total h) refl

pub number_crosses : (p n : ℕ) (rest : Cells) → n < 2 ^ 128 → goes_on continues_name rest ≡ true → number_by p n rest ≡ crossing (kind.Number n)
unfolding number_by
number_crosses p n rest h on = rw (lt-leb (2 ^ 128) n h, on) refl

pub number_before_name : (p n : ℕ) (rest : Cells) → n < 2 ^ 128 → goes_on continues_name rest ≡ false → continues_name (front rest) ≡ true → number_by p n rest ≡ flaw (BadNumber p)
unfolding number_by
number_before_name p n rest h on name = rw (lt-leb (2 ^ 128) n h, on, name) refl

pub number_ends : (v : View) (start n stop : ℕ) → n < 2 ^ 128 → goes_on continues_name (from v stop) ≡ false → continues_name (front (from v stop)) ≡ false →
    number_by start n (from v stop) ≡ word (record { kind = kind.Number n; start = start; end = stop }) (from v stop)
unfolding number_by
number_ends v start n stop h on name = rw (lt-leb (2 ^ 128) n h, on, name) (token_to v (kind.Number n) start stop)

-- ---- symbols

pub pair_ends : (v : View) (s : Symbol) (start at c next : ℕ) → Shows v at (Letter c next) → pair_at s start (from v at) ≡ word (record { kind = kind.Symbol s; start = start; end = next }) (from v next)
unfolding pair_at
pair_ends v s start at c next shown = ap (pair_at s start) shown.0 ∙ token_to v (kind.Symbol s) start next

pub pair_crosses : (v : View) (s : Symbol) (start at : ℕ) (f : Front) → Shows v at f → ((c next : ℕ) → f ≡ Letter c next → ⊥) → pair_at s start (from v at) ≡ crossing (kind.Symbol s)
unfolding pair_at
pair_crosses v s start at Over shown never = ap (pair_at s start) shown
pair_crosses v s start at Broken shown never = ap (pair_at s start) shown
pair_crosses v s start at (Beyond c) shown never = ap (pair_at s start) shown
pair_crosses v s start at (Letter c next) shown never = absurd (never c next refl)

single_by : (p c : ℕ) (rest : Cells) (o : Option Symbol) → single_of (is_clear rest) c ≡ o →
    single_at p c rest ≡ elim o as (λ _. Found) [ Some s ↦ token (kind.Symbol s) p rest | None ↦ flaw (BadChar p) ]
unfolding single_at
single_by p c rest o e = ap (λ w. elim w as (λ _. Found) [ Some s ↦ token (kind.Symbol s) p rest | None ↦ flaw (BadChar p) ]) e

pub single_ends : (v : View) (s : Symbol) (start c at : ℕ) → single_of (is_clear (from v at)) c ≡ Some s → single_at start c (from v at) ≡ word (record { kind = kind.Symbol s; start = start; end = at }) (from v at)
single_ends v s start c at e = single_by start c (from v at) (Some s) e ∙ token_to v (kind.Symbol s) start at

pub single_bad : (v : View) (start c at : ℕ) → single_of (is_clear (from v at)) c ≡ None → single_at start c (from v at) ≡ flaw (BadChar start)
single_bad v start c at e = single_by start c (from v at) None e

symbol_by : (p c : ℕ) (rest : Cells) (o : Option Symbol) → pair_of c (front rest) ≡ o →
    symbol_at p c rest ≡ elim o as (λ _. Found) [ Some s ↦ pair_at s p rest | None ↦ single_at p c rest ]
unfolding symbol_at
symbol_by p c rest o e = ap (λ w. elim w as (λ _. Found) [ Some s ↦ pair_at s p rest | None ↦ single_at p c rest ]) e

pub symbol_pair : (p c : ℕ) (rest : Cells) (s : Symbol) → pair_of c (front rest) ≡ Some s → symbol_at p c rest ≡ pair_at s p rest
symbol_pair p c rest s e = symbol_by p c rest (Some s) e

pub symbol_single : (p c : ℕ) (rest : Cells) → pair_of c (front rest) ≡ None → symbol_at p c rest ≡ single_at p c rest
symbol_single p c rest e = symbol_by p c rest None e
