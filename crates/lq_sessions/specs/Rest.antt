-- A text that goes on behind its end: what stands before that end and can be looked at.
use Rattle.std.specs.Prelude.{ℕ, zero, suc, ◌+◌, ◌^◌, Bool, true, false, not, ◌&&◌, ◌||◌, nat_lt, nat_le, ◌==◌, if◌then◌else◌, List, [], ◌∷◌, ◌++◌, length, drop, Result, Ok, Err}
use Rattle.std.specs.Char.{is_ascii_digit}
use Rattle.lq_grammar.specs.declared.fault.LexFault.{LexFault}
use Rattle.lq_grammar.specs.declared.fault.LexFault.TheVariants.{BadChar, OpenComment, OpenString, BadNumber, NoMemory}
use Rattle.lq_grammar.specs.declared.token.Token.{Token}
use Rattle.lq_grammar.specs.declared.token.Class.{Class}
use Rattle.lq_grammar.specs.declared.token.Class.TheVariants as class
use Rattle.lq_grammar.specs.Cells.{Cells, letter, cells, place, front, past, window}
use Rattle.lq_grammar.specs.declared.token.TokenKind.{TokenKind}
use Rattle.lq_grammar.specs.declared.token.TokenKind.TheVariants as kind
use Rattle.lq_grammar.specs.Tokens.{Found, nothing, bound, space, word, crossing, flaw, continues_name, value_from, class_of, found}
use Rattle.lq_grammar.specs.Selectors.{is_empty}
use Rattle.lq_grammar.specs.Cutting.{Next, sentence, longest, is_space}
use Rattle.lq_sentences.specs.Reading.{is_closed_behind}

abbrev pub is_between : ℕ → ℕ → ℕ → Bool
is_between low high b = nat_le low b && nat_le b high

-- whether the second byte of a character may stand behind its first
unfoldable pub goes_second : ℕ → ℕ → Bool
goes_second b c =
    if b == 224 then is_between 160 191 c
    else if b == 237 then is_between 128 159 c
    else if b == 240 then is_between 144 191 c
    else if b == 244 then is_between 128 143 c
    else is_between 128 191 c

-- whether bytes begin a character that the end of the text cuts off
unfoldable pub is_cut_character : List ℕ → Bool
is_cut_character (b ∷ []) = is_between 194 244 b
is_cut_character (b ∷ c ∷ []) = is_between 224 244 b && goes_second b c
is_cut_character (b ∷ c ∷ d ∷ []) = is_between 240 244 b && goes_second b c && is_between 128 191 d
is_cut_character _ = false

-- where what begins at p ends, if it is a name, and else p
unfoldable pub end_by : Class → ℕ → Cells → ℕ
end_by class.Name p cs = place (past continues_name cs)
end_by _ p cs = p

-- where a name at the front ends, and else the place of the front
unfoldable pub name_end : Cells → ℕ
name_end (letter p c cs) = end_by (class_of false c (front cs)) p cs
name_end cs = place cs

-- whether a text of that length goes on behind the character at the front
unfoldable pub goes_on_behind : ℕ → Cells → Bool
goes_on_behind n (letter p c cs) = nat_lt (place cs) n
goes_on_behind n _ = false

-- whether a bad number at the front ends inside a text of that length: its digits, which are too many, or a character behind them that no number has there
unfoldable pub number_inside : ℕ → Cells → Bool
number_inside n cs =
    nat_le (2 ^ 128) (value_from 0 cs) && nat_lt (place (past is_ascii_digit cs)) n || goes_on_behind n (past is_ascii_digit cs)

-- a fault that does not reach the end of the text
unfoldable pub is_inside : List ℕ → LexFault → Bool
is_inside text (BadChar p) =
    nat_lt (suc p) (length text) && not (is_cut_character (drop p text)) && nat_lt (name_end (cells p (drop p text))) (length text)
is_inside text (BadNumber p) = number_inside (length text) (cells p (drop p text))
is_inside text (OpenComment p) = false
is_inside text (OpenString p) = false
is_inside text NoMemory = false

-- whether a character could go on with a token of that kind
abbrev pub is_open_kind : TokenKind → Bool
is_open_kind kind.Name = true
is_open_kind (kind.Number n) = true
is_open_kind _ = false

-- whether a token may go on behind the end of a text: it reaches that, or a character that the end cuts off may belong to it
unfoldable pub may_go_on : List ℕ → Token → Bool
may_go_on text t = nat_le (length text) t.end || is_open_kind t.kind && is_cut_character (drop t.end text)

-- whether what a text that goes on has next is a sentence that counts: it has its end, and a byte behind that
unfoldable pub counts : List ℕ → Result Next LexFault → Bool
counts text (Ok (sentence ts p)) = is_closed_behind text [] ts && nat_lt p (length text)
counts text _ = false

-- the tokens that can be looked at, behind those found so far, or a fault among them
abbrev pub Looked : Type 0
Looked = Result (List Token) LexFault

unfoldable pub stopped : List ℕ → List Token → LexFault → Looked
stopped text ts f = elim (is_inside text f) [ true ↦ Err f | false ↦ Ok ts ]

-- a token at a place that goes on behind the bound of its sentence: it is left, but for the first
abbrev pub crossed : List Token → TokenKind → ℕ → List Token
crossed [] k start = record { kind = k; start = start; end = start + longest + 1 } ∷ []
crossed (t ∷ ts) k start = t ∷ ts

unfoldable pub looked : ℕ → List ℕ → List Token → Cells → Looked
looked zero text ts cs = Ok ts
looked (suc turns) text ts cs =
    elim (found (is_empty ts) cs) [
      | nothing ↦ Ok ts
      | bound ↦ Ok ts
      | space rest ↦ looked turns text ts rest
      | crossing k ↦ Ok (crossed ts k (place cs))
      | flaw f ↦ stopped text ts f
      | word t rest ↦ elim (may_go_on text t) [ true ↦ Ok ts | false ↦ looked turns text (ts ++ t ∷ []) rest ]
    ]

-- what a blank or a comment before a sentence gives: `go` for what comes behind it
abbrev pub looked_behind : List ℕ → (Cells → Looked) → Found → Looked
looked_behind text go (space rest) = go rest
looked_behind text go (flaw f) = stopped text [] f
looked_behind text go _ = Ok []

-- the same behind blanks and comments; the bound of a sentence counts from its start
unfoldable pub looked_begun : ℕ → List ℕ → Cells → Looked
looked_begun zero text cs = Ok []
looked_begun (suc turns) text cs =
    elim (is_space cs) [
      | true ↦ looked_behind text (λ rest. looked_begun turns text rest) (found false cs)
      | false ↦ looked (suc (length text)) text [] (window (place cs + longest) cs)
    ]

-- the tokens of a text that can be looked at, at or after a place
unfoldable pub looked_at : List ℕ → ℕ → Looked
looked_at text from = looked_begun (suc (length text)) text (cells from (drop from text))
