-- Tokens: what stands at the front of a text.
use Rattle.std.specs.Prelude.{ℕ, zero, suc, ◌+◌, ◌-◌, ◌*◌, ◌^◌, min, Bool, true, false, ◌&&◌, ◌||◌, ◌==◌, nat_lt, nat_le, Option, Some, None, if◌then◌else◌}
use Rattle.std.specs.Char.{is_ascii_digit}
use Rattle.unicode_ident.specs.Ident.{is_xid_start, is_xid_continue}
use Rattle.lq_grammar.specs.declared.fault.LexFault.{LexFault}
use Rattle.lq_grammar.specs.declared.fault.LexFault.TheVariants.{BadChar, OpenComment, OpenString, BadNumber}
use Rattle.lq_grammar.specs.declared.token.Class.{Class}
use Rattle.lq_grammar.specs.declared.token.Class.TheVariants as class
use Rattle.lq_grammar.specs.declared.token.Symbol.{Symbol}
use Rattle.lq_grammar.specs.declared.token.Symbol.TheVariants as sign
use Rattle.lq_grammar.specs.declared.token.Token.{Token}
use Rattle.lq_grammar.specs.declared.token.TokenKind.{TokenKind}
use Rattle.lq_grammar.specs.declared.token.TokenKind.TheVariants as kind
use Rattle.lq_grammar.specs.Cells.{Cells, over, broken, beyond, letter, place, front, past, goes_on}

-- what stands at the front of a text
pub data Found : Type 0 where
  -- nothing: the text ends
  nothing : Found
  -- nothing up to the bound, or a comment that goes on behind it
  bound : Found
  -- a blank or a comment, and what comes behind it
  space : Cells → Found
  -- a token, and what comes behind it
  word : Token → Cells → Found
  -- a token of that kind that goes on behind the bound
  crossing : TokenKind → Found
  -- a fault
  flaw : LexFault → Found

-- the token of that kind that ends where the rest begins
abbrev pub token : TokenKind → ℕ → Cells → Found
token k start rest = word (record { kind = k; start = start; end = place rest }) rest

-- space, tab, line feed, carriage return
abbrev pub is_blank : ℕ → Bool
is_blank c = c == 32 || c == 9 || c == 10 || c == 13

-- a name begins with a character of the Unicode property XID_Start or with `_`
unfoldable pub starts_name : ℕ → Bool
starts_name c = c == 95 || is_xid_start c

-- a name goes on with characters of the property XID_Continue and with `'`
unfoldable pub continues_name : ℕ → Bool
continues_name c = c == 39 || is_xid_continue c

-- ---- comments and strings

-- `(*` opens a comment
abbrev pub opens_comment : ℕ → ℕ → Bool
opens_comment c d = c == 40 && d == 42

-- `*)` closes one
abbrev pub closes_comment : ℕ → ℕ → Bool
closes_comment c d = c == 42 && d == 41

-- how many comments are open behind the character d, where n were before it and c stood there
abbrev pub open_behind : ℕ → ℕ → ℕ → ℕ
open_behind n c d = if opens_comment c d then n + 1 else if closes_comment c d then n - 1 else n

-- the character that may be the first half of a sign behind d: none where d was a second half
abbrev pub half_behind : ℕ → ℕ → ℕ
half_behind c d = if opens_comment c d || closes_comment c d then 0 else d

-- the rest of a comment that began at `start`: so many are open, and `half` may be the first half of a sign
unfoldable pub comment_from : ℕ → ℕ → ℕ → Cells → Found
comment_from start zero half cs = space cs
comment_from start (suc n) half (over p) = flaw (OpenComment start)
comment_from start (suc n) half (broken p) = flaw (BadChar p)
comment_from start (suc n) half (beyond p c) = bound
comment_from start (suc n) half (letter p c cs) = comment_from start (open_behind (suc n) half c) (half_behind half c) cs

-- a comment, behind its first character
unfoldable pub comment_at : ℕ → Cells → Found
comment_at start (letter p c cs) = comment_from start 1 0 cs
comment_at start _ = bound

-- the rest of a string that began at `start`; behind a quote the string ends, unless a second quote follows
unfoldable pub string_from : ℕ → Bool → Cells → Found
string_from start false (over p) = flaw (OpenString start)
string_from start false (broken p) = flaw (BadChar p)
string_from start false (beyond p c) = crossing kind.Text
string_from start false (letter p c cs) = string_from start (c == 34) cs
string_from start true (letter p c cs) = elim (c == 34) [ true ↦ string_from start false cs | false ↦ token kind.Text start (letter p c cs) ]
string_from start true (beyond p c) = elim (c == 34) [ true ↦ crossing kind.Text | false ↦ token kind.Text start (beyond p c) ]
string_from start true (over p) = token kind.Text start (over p)
string_from start true (broken p) = token kind.Text start (broken p)

-- ---- names, numbers and bullets

-- how many bytes a name has at most
abbrev pub longest_name : ℕ
longest_name = 255

-- a name that begins at p; too long a name is a bad character at its start
unfoldable pub name_at : ℕ → Cells → Found
name_at p cs =
    let rest = past continues_name cs in
    if nat_lt longest_name (place rest - p) then flaw (BadChar p)
    else if goes_on continues_name rest then crossing kind.Name
    else token kind.Name p rest

-- the number that the digits at the front go on with, where those before gave n
unfoldable pub value_from : ℕ → Cells → ℕ
value_from n (over p) = n
value_from n (broken p) = n
value_from n (beyond p c) = n
value_from n (letter p c cs) = elim (is_ascii_digit c) [ true ↦ value_from (10 * n + (c - 48)) cs | false ↦ n ]

-- a number of that value that began at p, by what comes behind its digits
unfoldable pub number_by : ℕ → ℕ → Cells → Found
number_by p n rest =
    if nat_le (2 ^ 128) n then flaw (BadNumber p)
    else if goes_on continues_name rest then crossing (kind.Number n)
    else if continues_name (front rest) then flaw (BadNumber p)
    else token (kind.Number n) p rest

-- a number that begins at p
abbrev pub number_at : ℕ → Cells → Found
number_at p cs = number_by p (value_from 0 cs) (past is_ascii_digit cs)

-- a bullet that begins at p: a run of c, which is one of `-`, `+` and `*`; 5 counts above four
unfoldable pub bullet_at : ℕ → ℕ → Cells → Found
bullet_at p c cs =
    let rest = past (λ d. d == c) cs in
    if goes_on (λ d. d == c) rest then crossing (kind.Bullet c 5)
    else token (kind.Bullet c (min (place rest - p) 5)) p rest

-- ---- symbols

-- the symbols of two characters
unfoldable pub pair_of : ℕ → ℕ → Option Symbol
pair_of c d =
    if c == 58 && d == 61 then Some sign.ColonEqual
    else if c == 61 && d == 62 then Some sign.FatArrow
    else if c == 45 && d == 62 then Some sign.Arrow
    else if c == 60 && d == 45 then Some sign.BackArrow
    else if c == 124 && d == 124 then Some sign.Bars
    else if c == 124 && d == 45 then Some sign.Turnstile
    else if c == 46 && d == 46 then Some sign.Dots
    else None

-- the symbols of one character; a `.` ends a sentence where nothing or a blank follows
unfoldable pub single_of : Bool → ℕ → Option Symbol
single_of is_clear c =
    if c == 40 then Some sign.OpenRound
    else if c == 41 then Some sign.CloseRound
    else if c == 91 then Some sign.OpenSquare
    else if c == 93 then Some sign.CloseSquare
    else if c == 123 then Some sign.OpenCurly
    else if c == 125 then Some sign.CloseCurly
    else if c == 58 then Some sign.Colon
    else if c == 44 then Some sign.Comma
    else if c == 59 then Some sign.Semicolon
    else if c == 124 then Some sign.Bar
    else if c == 43 then Some sign.Plus
    else if c == 45 then Some sign.Minus
    else if c == 42 then Some sign.Star
    else if c == 46 then Some (if is_clear then sign.Stop else sign.Dot)
    else if c == 63 then Some sign.Question
    else if c == 33 then Some sign.Bang
    else if c == 95 then Some sign.Underscore
    else None

-- the text ends, or a blank is at the front
unfoldable pub is_clear : Cells → Bool
is_clear (over p) = true
is_clear (broken p) = false
is_clear (beyond p c) = is_blank c
is_clear (letter p c cs) = is_blank c

-- the symbol of one character c at p, where `rest` comes behind it
unfoldable pub single_at : ℕ → ℕ → Cells → Found
single_at p c rest = elim (single_of (is_clear rest) c) [ Some s ↦ token (kind.Symbol s) p rest | None ↦ flaw (BadChar p) ]

-- a symbol of two characters at p, where the second is at the front
unfoldable pub pair_at : Symbol → ℕ → Cells → Found
pair_at s p (letter q d rest) = token (kind.Symbol s) p rest
pair_at s p _ = crossing (kind.Symbol s)

-- the longest symbol that begins with the character c at p
unfoldable pub symbol_at : ℕ → ℕ → Cells → Found
symbol_at p c cs = elim (pair_of c (front cs)) [ Some s ↦ pair_at s p cs | None ↦ single_at p c cs ]

-- ---- the front of a text, at the start of a sentence or inside it

-- what the character c begins before d; `_` alone is a symbol
unfoldable pub class_of : Bool → ℕ → ℕ → Class
class_of is_start c d =
    if is_blank c then class.Blank
    else if opens_comment c d then class.Comment
    else if is_start && (c == 45 || c == 43 || c == 42) then class.Bullet
    else if c == 34 then class.Text
    else if is_ascii_digit c then class.Number
    else if c == 95 then (if continues_name d then class.Name else class.Symbol)
    else if starts_name c then class.Name
    else class.Symbol

-- what a character c of that class at p begins, where cs comes behind it
unfoldable pub found_at : Class → ℕ → ℕ → Cells → Found
found_at class.Blank p c cs = space cs
found_at class.Comment p c cs = comment_at p cs
found_at class.Bullet p c cs = bullet_at p c cs
found_at class.Text p c cs = string_from p false cs
found_at class.Number p c cs = number_at p (letter p c cs)
found_at class.Name p c cs = name_at p cs
found_at class.Symbol p c cs = symbol_at p c cs

-- what stands at the front of a text; bullets stand at the start of a sentence alone
unfoldable pub found : Bool → Cells → Found
found is_start (over p) = nothing
found is_start (broken p) = flaw (BadChar p)
found is_start (beyond p c) = bound
found is_start (letter p c cs) = found_at (class_of is_start c (front cs)) p c cs
