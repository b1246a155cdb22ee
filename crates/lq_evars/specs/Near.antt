-- Trees near each other: what stands for a tree that is read is that tree, as long as it weighs at most 1,000,000.
use Rattle.std.specs.Prelude.{◌≡◌, ◌≤◌, ◌<◌, ◌+◌, ◌-◌, ℕ}
use Rattle.lq_trees.specs.Tree.{Tree, Trees}
use Rattle.lq_trees.specs.Size.{size, sizes}
use Rattle.lq_trees.specs.Marks.{loose, loose_of}

-- how many nodes a tree has, and how many loose bound variables beyond `below`
abbrev pub weighs : (below : ℕ) → Tree → ℕ
weighs d t = size t + (loose t - d)

-- the same of the entries of an instance
abbrev pub weigh : (below : ℕ) → Trees → ℕ
weigh d ts = sizes ts + (loose_of ts - d)

-- of two things that weigh so much: they are the same, or both weigh more than 1,000,000
pub record Close (first second : ℕ) (Same : Type 0) : Type 0 where
  pub small : first ≤ 1000000 → Same
  pub large : 1000000 < first → 1000000 < second

-- a tree, below so many binders, that stands for another
abbrev pub IsNear : (below : ℕ) → Tree → Tree → Type 0
IsNear d t u = Close (weighs d t) (weighs d u) (t ≡ u)

-- what stands for each tree that weighs too much
abbrev pub stand_in : Tree
stand_in = Tree.Rel 2000000
