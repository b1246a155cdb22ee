-- Sentences that stay however a text goes on: those that end, and have a character behind them.
use Rattle.std.specs.Prelude.{ℕ, zero, suc, ◌+◌, Bool, true, false, List, [], ◌∷◌, ◌++◌, length, drop}
use Rattle.lq_grammar.specs.declared.token.Token.{Token}
use Rattle.lq_grammar.specs.Cells.{Cells, over, broken, beyond, letter, cells, place, window}
use Rattle.lq_grammar.specs.Tokens.{Found, nothing, bound, space, word, crossing, flaw, found}
use Rattle.lq_grammar.specs.Selectors.{is_empty, closes}
use Rattle.lq_grammar.specs.Cutting.{longest, is_space}

-- whether a character is at the front
unfoldable pub has_character : Cells → Bool
has_character (over p) = false
has_character (broken p) = false
has_character (beyond p c) = false
has_character (letter p c cs) = true

-- whether the sentence with these tokens ends, and a character stands behind it
unfoldable pub is_settled : ℕ → List ℕ → List Token → Cells → Bool
is_settled zero text ts cs = false
is_settled (suc turns) text ts cs =
    elim (found (is_empty ts) cs) [
      | nothing ↦ false
      | bound ↦ false
      | space rest ↦ is_settled turns text ts rest
      | crossing k ↦ false
      | flaw fault ↦ false
      | word t rest ↦ elim (closes t.kind text ts) [ true ↦ has_character rest | false ↦ is_settled turns text (ts ++ t ∷ []) rest ]
    ]

-- so for the first sentence behind a space
abbrev pub settled_behind : (Cells → Bool) → Found → Bool
settled_behind go (space rest) = go rest
settled_behind go _ = false

-- whether the first sentence behind blanks and comments is such a one
unfoldable pub begins_settled : ℕ → List ℕ → Cells → Bool
begins_settled zero text cs = false
begins_settled (suc turns) text cs =
    elim (is_space cs) [
      | true ↦ settled_behind (λ rest. begins_settled turns text rest) (found false cs)
      | false ↦ is_settled (suc (length text)) text [] (window (place cs + longest) cs)
    ]

-- whether what a text has next at or after a place is a sentence that ends, with a character behind it
unfoldable pub settles : List ℕ → ℕ → Bool
settles text from = begins_settled (suc (length text)) text (cells from (drop from text))
