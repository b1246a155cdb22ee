-- What is marked of a tree: how many loose bound variables it has, whether it holds a hypothesis, and whether it holds an unknown.
use Rattle.std.specs.Prelude.{ℕ, ◌+◌, ◌-◌, max, Bool, true, false, ◌||◌}
use Rattle.lq_trees.specs.Tree.{Tree, Trees}

-- how many loose bound variables a tree has, counted up to the outermost that it names; none: it is closed
abbrev mutual
  pub loose : Tree → ℕ
  loose (Tree.Rel n) = n + 1
  loose (Tree.Var x) = 0
  loose (Tree.Sort s) = 0
  loose (Tree.Prod x kind rest) = max (loose kind) (loose rest - 1)
  loose (Tree.Lam x kind rest) = max (loose kind) (loose rest - 1)
  loose (Tree.Let x value kind rest) = max (loose value) (max (loose kind) (loose rest - 1))
  loose (Tree.App function argument) = max (loose function) (loose argument)
  loose (Tree.Const x) = 0
  loose (Tree.Ind x) = 0
  loose (Tree.Ctor x n) = 0
  loose (Tree.Elim x s) = 0
  loose (Tree.Evar n parts) = loose_of parts

  pub loose_of : Trees → ℕ
  loose_of Trees.none = 0
  loose_of (Trees.more first others) = max (loose first) (loose_of others)

-- whether a hypothesis stands in a tree
abbrev mutual
  pub holds_hypothesis : Tree → Bool
  holds_hypothesis (Tree.Rel n) = false
  holds_hypothesis (Tree.Var x) = true
  holds_hypothesis (Tree.Sort s) = false
  holds_hypothesis (Tree.Prod x kind rest) = holds_hypothesis kind || holds_hypothesis rest
  holds_hypothesis (Tree.Lam x kind rest) = holds_hypothesis kind || holds_hypothesis rest
  holds_hypothesis (Tree.Let x value kind rest) = holds_hypothesis value || holds_hypothesis kind || holds_hypothesis rest
  holds_hypothesis (Tree.App function argument) = holds_hypothesis function || holds_hypothesis argument
  holds_hypothesis (Tree.Const x) = false
  holds_hypothesis (Tree.Ind x) = false
  holds_hypothesis (Tree.Ctor x n) = false
  holds_hypothesis (Tree.Elim x s) = false
  holds_hypothesis (Tree.Evar n parts) = hold_hypothesis parts

  pub hold_hypothesis : Trees → Bool
  hold_hypothesis Trees.none = false
  hold_hypothesis (Trees.more first others) = holds_hypothesis first || hold_hypothesis others

-- whether an unknown stands in a tree
abbrev pub holds_unknown : Tree → Bool
holds_unknown (Tree.Rel n) = false
holds_unknown (Tree.Var x) = false
holds_unknown (Tree.Sort s) = false
holds_unknown (Tree.Prod x kind rest) = holds_unknown kind || holds_unknown rest
holds_unknown (Tree.Lam x kind rest) = holds_unknown kind || holds_unknown rest
holds_unknown (Tree.Let x value kind rest) = holds_unknown value || holds_unknown kind || holds_unknown rest
holds_unknown (Tree.App function argument) = holds_unknown function || holds_unknown argument
holds_unknown (Tree.Const x) = false
holds_unknown (Tree.Ind x) = false
holds_unknown (Tree.Ctor x n) = false
holds_unknown (Tree.Elim x s) = false
holds_unknown (Tree.Evar n parts) = true
