-- Rows by computation: what small texts have next.
use Rattle.std.proofs.Common.{refl, ◌≡◌, ℕ, [], ◌∷◌, ◌++◌}
use Rattle.std.specs.Prelude.{codes, Ok, Err}
use Rattle.lq_grammar.specs.declared.fault.LexFault.TheVariants.{BadChar, OpenComment, OpenString, BadNumber}
use Rattle.lq_grammar.specs.declared.token.Symbol.{Symbol}
use Rattle.lq_grammar.specs.declared.token.Symbol.TheVariants as sign
use Rattle.lq_grammar.specs.declared.token.Token.{Token}
use Rattle.lq_grammar.specs.declared.token.TokenKind.TheVariants as kind
use Rattle.lq_grammar.specs.Cutting.{sentence, finished, next}
use Rattle.lq_grammar.proofs.Computing.{cutting}

abbrev named : ℕ → ℕ → Token
named start stop = record { kind = kind.Name; start = start; end = stop }

abbrev signed : Symbol → ℕ → ℕ → Token
signed s start stop = record { kind = kind.Symbol s; start = start; end = stop }

abbrev counted : ℕ → ℕ → ℕ → Token
counted n start stop = record { kind = kind.Number n; start = start; end = stop }

abbrev quoted : ℕ → ℕ → Token
quoted start stop = record { kind = kind.Text; start = start; end = stop }

abbrev bulleted : ℕ → ℕ → ℕ → ℕ → Token
bulleted c n start stop = record { kind = kind.Bullet c n; start = start; end = stop }

show : next (codes "Show.") 0 ≡ Ok (sentence (named 0 4 ∷ signed sign.Stop 4 5 ∷ []) 5)
unfolding cutting
show = refl

nothing_there : next [] 0 ≡ Ok finished
unfolding cutting
nothing_there = refl

blanks : next (codes " (* a (* b *) *) ") 0 ≡ Ok finished
unfolding cutting
blanks = refl

-- a comment at the end of the text that is not closed
comment : next (codes "(* a") 0 ≡ Err (OpenComment 0)
unfolding cutting
comment = refl

-- `(*)` opens a comment and closes none; comments nest
comment_sign : next (codes "(*)") 0 ≡ Err (OpenComment 0)
unfolding cutting
comment_sign = refl

nested : next (codes "(* (* *) a") 0 ≡ Err (OpenComment 0)
unfolding cutting
nested = refl

-- a sentence without its dot has the tokens up to the end of the text
ends_inside : next (codes "Theorem t : Prop") 0 ≡ Ok (sentence (named 0 7 ∷ named 8 9 ∷ signed sign.Colon 10 11 ∷ named 12 16 ∷ []) 16)
unfolding cutting
ends_inside = refl

-- a byte that begins no character
bad_byte : next (0xFF ∷ []) 0 ≡ Err (BadChar 0)
unfolding cutting
bad_byte = refl

bad_sign : next (codes "a # b.") 0 ≡ Err (BadChar 2)
unfolding cutting
bad_sign = refl

number_fits : next (codes "Check 340282366920938463463374607431768211455.") 0 ≡ Ok (sentence (named 0 5 ∷ counted 340282366920938463463374607431768211455 6 45 ∷ signed sign.Stop 45 46 ∷ []) 46)
unfolding cutting
number_fits = refl

number_big : next (codes "Check 340282366920938463463374607431768211456.") 0 ≡ Err (BadNumber 6)
unfolding cutting
number_big = refl

number_letter : next (codes "do 3x.") 0 ≡ Err (BadNumber 3)
unfolding cutting
number_letter = refl

string_open : next (codes "Fail idtac " ++ 34 ∷ 97 ∷ []) 0 ≡ Err (OpenString 11)
unfolding cutting
string_open = refl

-- a doubled quote ends no string, and a dot in a string no sentence
string_doubled : next (34 ∷ 34 ∷ 34 ∷ 46 ∷ 32 ∷ 34 ∷ 46 ∷ []) 0 ≡ Ok (sentence (quoted 0 6 ∷ signed sign.Stop 6 7 ∷ []) 7)
unfolding cutting
string_doubled = refl

-- a dot inside a sentence ends none
dot_inside : next (codes "a.b. c") 0 ≡ Ok (sentence (named 0 1 ∷ signed sign.Dot 1 2 ∷ named 2 3 ∷ signed sign.Stop 3 4 ∷ []) 4)
unfolding cutting
dot_inside = refl

-- the longest symbol first
three_dots : next (codes "Abort...") 0 ≡ Ok (sentence (named 0 5 ∷ signed sign.Dots 5 7 ∷ signed sign.Stop 7 8 ∷ []) 8)
unfolding cutting
three_dots = refl

-- bullets stand at the start of a sentence alone, and end it
bullet : next (codes "-- exact I.") 0 ≡ Ok (sentence (bulleted 45 2 0 2 ∷ []) 2)
unfolding cutting
bullet = refl

bullet_five : next (codes "*****") 0 ≡ Ok (sentence (bulleted 42 5 0 5 ∷ []) 5)
unfolding cutting
bullet_five = refl

bullet_arrow : next (codes "->") 0 ≡ Ok (sentence (bulleted 45 1 0 1 ∷ []) 1)
unfolding cutting
bullet_arrow = refl

minus_inside : next (codes "a - b -> c.") 0 ≡ Ok (sentence (named 0 1 ∷ signed sign.Minus 2 3 ∷ named 4 5 ∷ signed sign.Arrow 6 8 ∷ named 9 10 ∷ signed sign.Stop 10 11 ∷ []) 11)
unfolding cutting
minus_inside = refl

-- `{` ends a sentence at its start, and behind a selector and `:`
brace : next (codes "{ split.") 0 ≡ Ok (sentence (signed sign.OpenCurly 0 1 ∷ []) 1)
unfolding cutting
brace = refl

brace_number : next (codes "2: { a") 0 ≡ Ok (sentence (counted 2 0 1 ∷ signed sign.Colon 1 2 ∷ signed sign.OpenCurly 3 4 ∷ []) 4)
unfolding cutting
brace_number = refl

brace_name : next (codes "[x]: { a") 0 ≡ Ok (sentence (signed sign.OpenSquare 0 1 ∷ named 1 2 ∷ signed sign.CloseSquare 2 3 ∷ signed sign.Colon 3 4 ∷ signed sign.OpenCurly 5 6 ∷ []) 6)
unfolding cutting
brace_name = refl

brace_ranges : next (codes "1,3-4:{ a") 0 ≡ Ok (sentence (counted 1 0 1 ∷ signed sign.Comma 1 2 ∷ counted 3 2 3 ∷ signed sign.Minus 3 4 ∷ counted 4 4 5 ∷ signed sign.Colon 5 6 ∷ signed sign.OpenCurly 6 7 ∷ []) 7)
unfolding cutting
brace_ranges = refl

brace_all : next (codes "all:{") 0 ≡ Ok (sentence (named 0 3 ∷ signed sign.Colon 3 4 ∷ signed sign.OpenCurly 4 5 ∷ []) 5)
unfolding cutting
brace_all = refl

-- and nowhere else
brace_inside : next (codes "a { b. c") 0 ≡ Ok (sentence (named 0 1 ∷ signed sign.OpenCurly 2 3 ∷ named 4 5 ∷ signed sign.Stop 5 6 ∷ []) 6)
unfolding cutting
brace_inside = refl

-- `_` alone is a symbol, and begins a name before a character of one
underscores : next (codes "_ _x x'.") 0 ≡ Ok (sentence (signed sign.Underscore 0 1 ∷ named 2 4 ∷ named 5 7 ∷ signed sign.Stop 7 8 ∷ []) 8)
unfolding cutting
underscores = refl

-- a name of more than one byte a character: U+00E9 and U+4E2D
wide : next (0xC3 ∷ 0xA9 ∷ 0xE4 ∷ 0xB8 ∷ 0xAD ∷ 46 ∷ []) 0 ≡ Ok (sentence (named 0 5 ∷ signed sign.Stop 5 6 ∷ []) 6)
unfolding cutting
wide = refl

-- a text from a place on
from_there : next (codes "Qed. Show.") 4 ≡ Ok (sentence (named 5 9 ∷ signed sign.Stop 9 10 ∷ []) 10)
unfolding cutting
from_there = refl
