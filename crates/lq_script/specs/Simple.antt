-- The types that a script writes.
use Rattle.std.specs.Prelude.{◌≡◌, List, true}
use Rattle.lq_trees.specs.Tree.{Name, Tree}
use Rattle.lq_trees.specs.Fresh.{is_listed}

-- bound variables, hypotheses of those names, constants, sorts and products are the only nodes of the tree
abbrev pub IsSimple : List Name → Tree → Type 0
IsSimple xs (Tree.Rel n) = Unit {0}
IsSimple xs (Tree.Var x) = is_listed xs x ≡ true
IsSimple xs (Tree.Sort s) = Unit {0}
IsSimple xs (Tree.Prod x kind rest) = IsSimple xs kind × IsSimple xs rest
IsSimple xs (Tree.Lam x kind rest) = ⊥
IsSimple xs (Tree.Let x value kind rest) = ⊥
IsSimple xs (Tree.App function argument) = ⊥
IsSimple xs (Tree.Const x) = Unit {0}
IsSimple xs (Tree.Ind x) = ⊥
IsSimple xs (Tree.Ctor x n) = ⊥
IsSimple xs (Tree.Elim x s) = ⊥
IsSimple xs (Tree.Evar n parts) = ⊥
