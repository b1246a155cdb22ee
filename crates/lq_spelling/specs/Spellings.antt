-- Tokens whose bytes are texts.
use Rattle.std.specs.Prelude.{◌≡◌, ◌⊎◌, ℕ, ◌+◌, ◌≤◌, List, [], ◌∷◌, ◌++◌, length, IsUtf8, All}
use Rattle.lq_grammar.specs.declared.token.Token.{Token}
use Rattle.lq_grammar.specs.declared.token.TokenKind.{TokenKind}
use Rattle.lq_grammar.specs.declared.token.TokenKind.TheVariants as kind
use Rattle.lq_grammar.specs.Selectors.{spelled}
use Rattle.lq_grammar.specs.Cutting.{longest}
use Rattle.lq_grammar.specs.Spans.{IsSpread}

-- bytes that a token of that kind may have: a name is a text, and a string is one between two quotes
abbrev pub Spells : TokenKind → List ℕ → Type 0
Spells kind.Name bytes = IsUtf8 bytes
Spells kind.Text bytes = (inner : List ℕ) × IsUtf8 inner × (bytes ≡ 34 ∷ (inner ++ 34 ∷ []))
Spells _ bytes = Unit {0}

-- a token stands in the text, and has such bytes
abbrev pub IsReadable : List ℕ → Token → Type 0
IsReadable text t = (t.start ≤ t.end) × (t.end ≤ length text) × Spells t.kind (spelled text t)

abbrev pub AreReadable : List ℕ → List Token → Type 0
AreReadable text ts = All (IsReadable text) ts

-- the first token of a sentence, given alone up to the byte behind the bound
abbrev pub IsCutOff : List Token → Type 0
IsCutOff ts = (k : TokenKind) × (start : ℕ) × (ts ≡ record { kind = k; start = start; end = start + longest + 1 } ∷ [])

-- tokens that stand one behind another in a text and have the bytes of their kinds, but for a first one that is cut off at the bound:
-- those of the next sentence of a text, and those that can be looked at of one that goes on
pub record IsCut (text : List ℕ) (tokens : List Token) : Type 0 where
  pub from : ℕ
  pub stop : ℕ
  pub spread : IsSpread from (length text) tokens stop
  pub reads : All (λ t. Spells t.kind (spelled text t)) tokens ⊎ IsCutOff tokens
