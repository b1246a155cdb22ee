-- Texts by number.
use Rattle.std.specs.Prelude.{◌≡◌, ◌<◌, ℕ, List, [], ◌++◌, length, slice_index_or, slice_get, Some}
use Rattle.std.specs.List.{AllByRecursion}
use Rattle.lq_trees.specs.Tree.{Name}

-- the text of that number
abbrev pub text_at : List Name → ℕ → Name
text_at texts k = slice_index_or texts k []

-- the text has that number
abbrev pub IsText : List Name → ℕ → Name → Type 0
IsText texts k x = slice_get texts k ≡ Some x

-- texts were only added
pub record Lengthens (old new : List Name) : Type 0 where
  pub more : List Name
  pub is : new ≡ old ++ more

-- the numbers of a list are those of texts
abbrev pub AreWithin : List Name → List ℕ → Type 0
AreWithin ts ks = AllByRecursion (λ k. k < length ts) ks

-- no text has two numbers
abbrev pub AreApart : List Name → Type 0
AreApart texts = (i : ℕ) (j : ℕ) → i < length texts → j < length texts → text_at texts i ≡ text_at texts j → i ≡ j
