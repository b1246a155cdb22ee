-- Words in a row, for rows.
use Rattle.std.specs.Prelude.{ℕ, suc, List, [], ◌∷◌}
use Rattle.lq_sentences.specs.Words.{Word, Words}

-- each with its place, from a number on
unfoldable pub placed : ℕ → List Word → Words
placed n [] = []
placed n (w ∷ ws) = (w, n) ∷ placed (suc n) ws
