-- A script is cut into sentences.
use Rattle.std.specs.Prelude.{ℕ, Bool, true, false, ◌==◌, ◌||◌, ◌&&◌, List, [], ◌∷◌}

-- space, tab, line feed, carriage return
abbrev pub is_blank : ℕ → Bool
is_blank b = b == 32 || b == 9 || b == 10 || b == 13

-- whether a dot with this behind it ends a sentence: nothing, or a blank first
abbrev pub is_clear : List ℕ → Bool
is_clear [] = true
is_clear (b ∷ bs) = is_blank b

-- the sentences of a script, each without its dot, and what stands behind the last one's
pub record Script : Type 0 where
  pub sentences : List (List ℕ)
  pub rest : List ℕ

-- a byte in front of the first sentence, or of the rest where there is no sentence
unfoldable pub in_front : ℕ → List (List ℕ) → List ℕ → Script
in_front b [] rest = record { sentences = []; rest = b ∷ rest }
in_front b (p ∷ ps) rest = record { sentences = (b ∷ p) ∷ ps; rest = rest }

-- a sentence ends at a dot that is followed by a blank or by the end of the text
unfoldable pub cut : List ℕ → Script
cut [] = record { sentences = []; rest = [] }
cut (b ∷ bs) = elim (b == 46 && is_clear bs) [
  | true ↦ record { sentences = [] ∷ (cut bs).sentences; rest = (cut bs).rest }
  | false ↦ in_front b (cut bs).sentences (cut bs).rest
]
