-- Which numbers are used behind a text.
use Rattle.std.specs.Prelude.{◌≡◌, ◌<◌, ◌++◌, ℕ, Bool, false, List, length, decimal, slice_index_or}
use Rattle.lq_trees.specs.Tree.{Name}
use Rattle.lq_trees.specs.Fresh.{is_listed, fresh_from}

-- the text with the number behind it is the first from 0 on that is not among the names
abbrev pub IsFirstFree : List Name → Name → ℕ → Type 0
IsFirstFree names text k = fresh_from names text 0 (length names) ≡ text ++ decimal k

-- of each of the first `n` numbers, whether one of these names is the text with the number behind it
pub record AreUsed (names : List Name) (text : Name) (n : ℕ) (used : List Bool) : Type 0 where
  pub length : length used ≡ n
  pub told : (k : ℕ) → k < n → slice_index_or used k false ≡ is_listed names (text ++ decimal k)
