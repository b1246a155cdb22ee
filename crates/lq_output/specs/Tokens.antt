-- The tokens of a sentence: words and symbols, split by blanks and by symbols.
use Rattle.std.specs.Prelude.{ℕ, Bool, ◌==◌, ◌||◌, ◌&&◌, nat_le, List, [], ◌∷◌, ◌++◌, Option, Some, None, if◌then◌else◌}
use Rattle.lq_output.specs.Script.{is_blank}

pub data Token : Type 0 where
  -- a row of letters, digits and `_`
  word : List ℕ → Token
  -- `:`
  colon : Token
  -- `,`
  comma : Token
  -- `->`
  arrow : Token
  -- `;`
  semicolon : Token
  -- `(`
  opening : Token
  -- `)`
  closing : Token

abbrev pub is_letter : ℕ → Bool
is_letter b = (nat_le 65 b && nat_le b 90) || (nat_le 97 b && nat_le b 122)

abbrev pub is_digit : ℕ → Bool
is_digit b = nat_le 48 b && nat_le b 57

-- a byte of a word
abbrev pub in_word : ℕ → Bool
in_word b = is_letter b || is_digit b || b == 95

-- the symbols of one byte
abbrev pub symbol_of : ℕ → Option Token
symbol_of b =
    if b == 58 then Some colon
    else if b == 44 then Some comma
    else if b == 59 then Some semicolon
    else if b == 40 then Some opening
    else if b == 41 then Some closing
    else None

-- what was begun of a token and hasn't ended: nothing, a word so far, or the `-` of an arrow
pub data Begun : Type 0 where
  nothing : Begun
  letters : List ℕ → Begun
  dash : Begun

-- the token that ends here, if one was begun; the `-` of an arrow can't end
abbrev pub ended : Begun → Option (List Token)
ended nothing = Some []
ended (letters w) = Some (word w ∷ [])
ended dash = None

-- the tokens that end before a byte, which begins that much of the next
abbrev pub ending_before : Begun → List Token → Begun → Option (List Token × Begun)
ending_before begun own next = elim (ended begun) [ None ↦ None | Some ts ↦ Some (ts ++ own, next) ]

-- a byte of a word goes on with what was begun
abbrev pub goes_on : Begun → ℕ → Option (List Token × Begun)
goes_on nothing b = Some ([], letters (b ∷ []))
goes_on (letters w) b = Some ([], letters (w ++ b ∷ []))
goes_on dash b = None

-- `>` ends an arrow
abbrev pub ends_arrow : Begun → Option (List Token × Begun)
ends_arrow dash = Some (arrow ∷ [], nothing)
ends_arrow _ = None

-- one byte more: the tokens that it ends, and what is begun then; None where it is in no token
unfoldable pub after_byte : Begun → ℕ → Option (List Token × Begun)
after_byte begun b =
    if in_word b then goes_on begun b
    else if is_blank b then ending_before begun [] nothing
    else if b == 45 then ending_before begun [] dash
    else if b == 62 then ends_arrow begun
    else elim (symbol_of b) [ None ↦ None | Some t ↦ ending_before begun (t ∷ []) nothing ]

-- tokens in front of others
abbrev pub before_tokens : List Token → Option (List Token) → Option (List Token)
before_tokens ts None = None
before_tokens ts (Some us) = Some (ts ++ us)

-- the tokens of the rest of a text of which that much of a token was begun
unfoldable pub tokens_from : Begun → List ℕ → Option (List Token)
tokens_from begun [] = ended begun
tokens_from begun (b ∷ bs) = elim (after_byte begun b) [ None ↦ None | Some r ↦ before_tokens r.0 (tokens_from r.1 bs) ]

-- the tokens of a text; None where a byte of it is in no token
unfoldable pub tokens : List ℕ → Option (List Token)
tokens bs = tokens_from nothing bs
