-- The next sentence of a text.
use Rattle.std.specs.Prelude.{◌≢◌, ℕ, zero, suc, ◌+◌, ◌<◌, Bool, true, false, List, [], ◌∷◌, ◌++◌, All, drop, length, Result, Ok, Err}
use Rattle.lq_grammar.specs.declared.fault.LexFault.{LexFault}
use Rattle.lq_grammar.specs.declared.token.Class.{Class}
use Rattle.lq_grammar.specs.declared.token.Class.TheVariants as class
use Rattle.lq_grammar.specs.declared.token.Token.{Token}
use Rattle.lq_grammar.specs.declared.token.TokenKind.{TokenKind}
use Rattle.lq_grammar.specs.Cells.{Cells, letter, cells, place, front, window}
use Rattle.lq_grammar.specs.Tokens.{Found, nothing, bound, space, word, crossing, flaw, class_of, found}
use Rattle.lq_grammar.specs.Selectors.{is_empty, closes}

-- how many bytes from its start a sentence is looked for
abbrev pub longest : ℕ
longest = 65536

-- what a text has next: tokens with the place behind them, or nothing but blanks and comments
pub data Next : Type 0 where
  sentence : List Token → ℕ → Next
  finished : Next

-- the place behind the last of some tokens
abbrev pub end_of : List Token → ℕ
end_of [] = 0
end_of (t ∷ []) = t.end
end_of (t ∷ u ∷ ts) = end_of (u ∷ ts)

-- the tokens of a sentence that does not end: those that end within the bound, or up to the end of the text
abbrev pub so_far : List Token → Next
so_far [] = finished
so_far (t ∷ ts) = sentence (t ∷ ts) (end_of (t ∷ ts))

-- a token at a place that goes on behind the bound: it is left, but the first of a sentence is given alone, up to the byte behind the bound
abbrev pub cut_off : List Token → TokenKind → ℕ → Next
cut_off [] k start = let stop = start + longest + 1 in sentence (record { kind = k; start = start; end = stop } ∷ []) stop
cut_off (t ∷ ts) k start = so_far (t ∷ ts)

-- the sentence that has these tokens and goes on with what is found, in at most so many tokens and spaces
unfoldable pub gathered : ℕ → List ℕ → List Token → Cells → Result Next LexFault
gathered zero text ts cs = Ok (so_far ts)
gathered (suc turns) text ts cs =
    elim (found (is_empty ts) cs) [
      | nothing ↦ Ok (so_far ts)
      | bound ↦ Ok (so_far ts)
      | space rest ↦ gathered turns text ts rest
      | crossing k ↦ Ok (cut_off ts k (place cs))
      | flaw fault ↦ Err fault
      | word t rest ↦ elim (closes t.kind text ts) [ true ↦ Ok (sentence (ts ++ t ∷ []) t.end) | false ↦ gathered turns text (ts ++ t ∷ []) rest ]
    ]

abbrev pub is_space_class : Class → Bool
is_space_class class.Blank = true
is_space_class class.Comment = true
is_space_class _ = false

-- whether a blank or a comment is at the front
unfoldable pub is_space : Cells → Bool
is_space (letter p c cs) = is_space_class (class_of false c (front cs))
is_space _ = false

-- what a blank or a comment before a sentence gives: `go` for what comes behind it
abbrev pub behind_space : (Cells → Result Next LexFault) → Found → Result Next LexFault
behind_space go (space rest) = go rest
behind_space go (flaw fault) = Err fault
behind_space go _ = Ok finished

-- the first sentence behind blanks and comments, of which there are at most so many; its bound counts from its start
unfoldable pub begun : ℕ → List ℕ → Cells → Result Next LexFault
begun zero text cs = Ok finished
begun (suc turns) text cs =
    elim (is_space cs) [
      | true ↦ behind_space (λ rest. begun turns text rest) (found false cs)
      | false ↦ gathered (suc (length text)) text [] (window (place cs + longest) cs)
    ]

-- what a text that is all there has next at or after a place
unfoldable pub next : List ℕ → ℕ → Result Next LexFault
next text from = begun (suc (length text)) text (cells from (drop from text))

-- ---- a text that may go on

abbrev pub AreBytes : List ℕ → Type 0
AreBytes = All (λ b. b < 256)

-- two texts that go on from this one have different answers
pub record IsOpen (text : List ℕ) (from : ℕ) : Type 0 where
  pub one : List ℕ
  pub other : List ℕ
  pub one_bytes : AreBytes one
  pub other_bytes : AreBytes other
  pub differ : next (text ++ one) from ≢ next (text ++ other) from
