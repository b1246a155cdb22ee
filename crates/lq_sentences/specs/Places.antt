-- What the place of a fault says of the words of a sentence.
use Rattle.std.specs.Prelude.{◌≡◌, ℕ, ◌∷◌, ◌++◌}
use Rattle.lq_ast.specs.Commands.{Sentence}
use Rattle.lq_sentences.specs.declared.fault.SyntaxFault.{SyntaxFault}
use Rattle.lq_sentences.specs.declared.fault.SyntaxFault.TheVariants.{Unexpected, TooNested, EndInside, SentenceTooLong, NoMemory}
use Rattle.lq_sentences.specs.Words.{Word, Words}
use Rattle.lq_sentences.specs.Sentences.{IsSentence}
use Rattle.lq_sentences.specs.Nesting.{IsSentenceWithin}

-- some sentence begins with the words; what stands behind them may nest three deeper than a sentence may
abbrev pub SomeGoesOn : Words → Type 0
SomeGoesOn ws = (more : Words) × (s : Sentence) × IsSentenceWithin 204 (ws ++ more) s

-- at the place stands the first word with which no sentence goes on: some sentence begins with the words before it
abbrev pub IsLeastPlace : Words → ℕ → Type 0
IsLeastPlace ws p =
    (used : Words) × (w : Word × ℕ) × (tail : Words) × (ws ≡ used ++ w ∷ tail) × (w.1 ≡ p) × ((more : Words) (s : Sentence) → IsSentence (used ++ w ∷ more) s → ⊥) × SomeGoesOn used

-- the fault of the words of a text of that length is in its place
abbrev pub IsPlaced : ℕ → Words → SyntaxFault → Type 0
IsPlaced len ws (Unexpected p) = IsLeastPlace ws p
IsPlaced len ws (TooNested p) = IsLeastPlace ws p
IsPlaced len ws (EndInside p) = (p ≡ len) × SomeGoesOn ws × ((s : Sentence) → IsSentence ws s → ⊥)
IsPlaced len ws (SentenceTooLong p) = Unit {0}
IsPlaced len ws NoMemory = Unit {0}
