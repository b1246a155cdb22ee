-- What the parts of the scanner tell of a text.
use Rattle.std.specs.Prelude.{◌≡◌, ℕ, ◌+◌, ◌*◌, ◌^◌, ◌<◌, ◌≤◌, ◌==◌, Bool, true, false, List, Option, Some, None, length}
use Rattle.lq_grammar.specs.declared.token.Class.{Class}
use Rattle.lq_grammar.specs.declared.token.Class.TheVariants as class
use Rattle.lq_grammar.specs.declared.token.Token.{Token}
use Rattle.lq_grammar.specs.declared.token.Symbol.TheVariants as sign
use Rattle.lq_grammar.specs.declared.token.TokenKind.{TokenKind}
use Rattle.lq_grammar.specs.declared.token.TokenKind.TheVariants as kind
use Rattle.lq_grammar.specs.Cells.{Cells, over, broken, beyond, letter, past, view}
use Rattle.std.specs.Char.{is_ascii_digit}
use Rattle.lq_grammar.specs.Tokens.{is_blank, continues_name, value_from}
use Rattle.lq_grammar.specs.Tokens as tokens
use Rattle.lq_lex.specs.declared.found.Found.{Found}
use Rattle.lq_lex.specs.declared.found.Found.TheVariants as told
use Rattle.lq_lex.specs.declared.runs.Run.{Run}
use Rattle.lq_lex.specs.declared.runs.Run.TheVariants.{Name, Same}
use Rattle.lq_lex.specs.declared.view.View.{View}
use Rattle.lq_lex.specs.declared.view.Front.{Front}
use Rattle.lq_lex.specs.declared.view.Front.TheVariants.{Over, Broken, Beyond, Letter}

-- the characters of a view from a place on
abbrev pub from : View → ℕ → Cells
from v at = view v.limit v.text.now at

-- what stands at a place of a view
abbrev pub Shows : View → ℕ → Front → Type 0
Shows v at Over = from v at ≡ over at
Shows v at Broken = from v at ≡ broken at
Shows v at (Beyond c) = from v at ≡ beyond at c
Shows v at (Letter c next) = (from v at ≡ letter at c (from v next)) × (at < next) × (next ≤ length v.text.now)

-- the character at the front, 0 where there is none
abbrev pub front_of : Front → ℕ
front_of Over = 0
front_of Broken = 0
front_of (Beyond c) = c
front_of (Letter c next) = c

-- whether the text ends or a blank is at the front
abbrev pub clear_of : Front → Bool
clear_of Over = true
clear_of Broken = false
clear_of (Beyond c) = is_blank c
clear_of (Letter c next) = is_blank c

-- ---- runs

-- the test of the characters of a run
abbrev pub test_of : Run → ℕ → Bool
test_of Name = continues_name
test_of (Same c) = λ d. d == c

-- a run goes on with the character at a place, or ends there
abbrev pub Steps : View → (ℕ → Bool) → ℕ → Option ℕ → Type 0
Steps v test at None = past test (from v at) ≡ from v at
Steps v test at (Some next) = (past test (from v at) ≡ past test (from v next)) × (at < next) × (next ≤ length v.text.now)

-- ---- what is found at a place

-- a token stands between its places in the text
abbrev pub IsSpanned : List ℕ → Token → Type 0
IsSpanned text t = (t.start ≤ t.end) × (t.end ≤ length text)

-- what the scanner tells is what stands there
abbrev pub Tells : View → Found → tokens.Found → Type 0
Tells v told.Nothing s = s ≡ tokens.nothing
Tells v told.Bound s = s ≡ tokens.bound
Tells v (told.Space at) s = (s ≡ tokens.space (from v at)) × (at ≤ length v.text.now)
Tells v (told.Word t) s = (s ≡ tokens.word t (from v t.end)) × (t.start ≤ t.end) × (t.end ≤ length v.text.now)
Tells v (told.Crossing k) s = s ≡ tokens.crossing k
Tells v (told.Flaw fault) s = s ≡ tokens.flaw fault

-- the string between two places
abbrev pub text_token : ℕ → ℕ → Found
text_token start stop = told.Word (record { kind = kind.Text; start = start; end = stop })

-- ---- numbers

-- the digit at a place, if one is there: what the number and its digits go on with
abbrev pub ReadsDigit : View → ℕ → Option (ℕ × ℕ) → Type 0
ReadsDigit v at None = (past is_ascii_digit (from v at) ≡ from v at) × ((n : ℕ) → value_from n (from v at) ≡ n)
ReadsDigit v at (Some r) =
    (past is_ascii_digit (from v at) ≡ past is_ascii_digit (from v r.1)) × ((n : ℕ) → value_from n (from v at) ≡ value_from (10 * n + r.0) (from v r.1)) × (at < r.1) × (r.1 ≤ length v.text.now)

-- a value with one digit more, where it is known and less than 2^128
abbrev pub Adds : Option ℕ → ℕ → Option ℕ → Type 0
Adds None digit r = r ≡ None
Adds (Some n) digit None = 2 ^ 128 ≤ 10 * n + digit
Adds (Some n) digit (Some m) = m ≡ 10 * n + digit

-- the number that the characters give in the end, from what is known of it so far
abbrev pub Values : Option ℕ → Cells → ℕ → Type 0
Values None cs total = 2 ^ 128 ≤ total
Values (Some n) cs total = value_from n cs ≡ total

-- the value that is told of a number, where it is less than 2^128
abbrev pub IsValue : Option ℕ → ℕ → Type 0
IsValue None total = 2 ^ 128 ≤ total
IsValue (Some n) total = (total ≡ n) × (n < 2 ^ 128)

-- a bullet begins
abbrev pub IsBullet : Class → Type 0
IsBullet class.Bullet = Unit {0}
IsBullet _ = ⊥

-- ---- selectors

abbrev pub is_open_curly : TokenKind → Bool
is_open_curly (kind.Symbol sign.OpenCurly) = true
is_open_curly _ = false
