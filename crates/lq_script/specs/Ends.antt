-- Where the first sentence of what is left of a text ends.
use Rattle.std.specs.Prelude.{◌≡◌, ℕ, ◌+◌, ◌<◌, ◌≤◌, List, [], ◌∷◌, length, drop, slice_range, Option, Some, None}
use Rattle.lq_output.specs.Script.{Script, cut}

-- a sentence in front of a script
abbrev pub with_sentence : List ℕ → Script → Script
with_sentence p s = record { sentences = p ∷ s.sentences; rest = s.rest }

-- The first sentence from a place on ends at a dot, and what is behind the dot is cut for itself.
pub record IsFirstEnd (text : List ℕ) (from dot : ℕ) : Type 0 where
  pub order : from ≤ dot
  pub within : dot < length text
  pub first : cut (drop from text) ≡ with_sentence (slice_range text from dot) (cut (drop (dot + 1) text))

-- where the first sentence from a place on ends; None where there is none
abbrev pub IsEnd : List ℕ → ℕ → Option ℕ → Type 0
IsEnd text from (Some dot) = IsFirstEnd text from dot
IsEnd text from None = cut (drop from text) ≡ record { sentences = []; rest = drop from text }
