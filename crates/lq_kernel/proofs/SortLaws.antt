-- Sorts of products.
use Rattle.std.proofs.Common.{◌≡◌, ℕ, max, refl}
use Rattle.lq_trees.specs.declared.Sort.{Sort as Universe}
use Rattle.lq_calculus.specs.Typing.{product_sort}

pub product_base : (s : Universe) → product_sort s Universe.Base ≡ Universe.Base
unfolding product_sort
product_base Universe.Base = refl
product_base (Universe.Level i) = refl

pub product_first : (j : ℕ) → product_sort Universe.Base (Universe.Level j) ≡ Universe.Level j
unfolding product_sort
product_first j = refl

pub product_levels : (i j : ℕ) → product_sort (Universe.Level i) (Universe.Level j) ≡ Universe.Level (max i j)
unfolding product_sort
product_levels i j = refl
