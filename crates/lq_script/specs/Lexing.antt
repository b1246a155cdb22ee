-- A text's tokens, one by one.
use Rattle.std.specs.Prelude.{ℕ, ◌==◌, List, [], ◌∷◌, take, drop, Option, Some, None, if◌then◌else◌}
use Rattle.std.specs.List.{prefix_len}
use Rattle.lq_output.specs.Tokens.{Token, word, arrow, in_word, symbol_of}

-- the word that a text begins with, and the text behind it
unfoldable pub first_word : List ℕ → Option (Token × List ℕ)
first_word bs = if prefix_len in_word bs == 0 then None else Some (word (take (prefix_len in_word bs) bs), drop (prefix_len in_word bs) bs)

-- the arrow whose `-` stands before a text
unfoldable pub first_arrow : List ℕ → Option (Token × List ℕ)
first_arrow [] = None
first_arrow (b ∷ bs) = if b == 62 then Some (arrow, bs) else None

-- a symbol in front of a text; a word, where there is none
abbrev pub symbol_or_word : Option Token → List ℕ → Option (Token × List ℕ) → Option (Token × List ℕ)
symbol_or_word (Some t) bs w = Some (t, bs)
symbol_or_word None bs w = w

-- the token that a text begins with, and the text behind it
unfoldable pub first_token : List ℕ → Option (Token × List ℕ)
first_token [] = None
first_token (b ∷ bs) = if b == 45 then first_arrow bs else symbol_or_word (symbol_of b) bs (first_word (b ∷ bs))
