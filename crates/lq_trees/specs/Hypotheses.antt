-- Which hypotheses a term holds.
use Rattle.std.specs.Prelude.{◌≡◌, true, List}
use Rattle.lq_trees.specs.Tree.{Name, Tree, Trees}
use Rattle.lq_trees.specs.Fresh.{is_listed}

-- the tree holds hypotheses of these names alone
abbrev mutual
  pub HoldsOnly : List Name → Tree → Type 0
  HoldsOnly xs (Tree.Rel i) = Unit {0}
  HoldsOnly xs (Tree.Var x) = is_listed xs x ≡ true
  HoldsOnly xs (Tree.Sort s) = Unit {0}
  HoldsOnly xs (Tree.Prod x kind rest) = HoldsOnly xs kind × HoldsOnly xs rest
  HoldsOnly xs (Tree.Lam x kind rest) = HoldsOnly xs kind × HoldsOnly xs rest
  HoldsOnly xs (Tree.Let x value kind rest) = HoldsOnly xs value × HoldsOnly xs kind × HoldsOnly xs rest
  HoldsOnly xs (Tree.App function argument) = HoldsOnly xs function × HoldsOnly xs argument
  HoldsOnly xs (Tree.Const x) = Unit {0}
  HoldsOnly xs (Tree.Ind x) = Unit {0}
  HoldsOnly xs (Tree.Ctor x k) = Unit {0}
  HoldsOnly xs (Tree.Elim x s) = Unit {0}
  HoldsOnly xs (Tree.Evar k parts) = EachHoldsOnly xs parts

  pub EachHoldsOnly : List Name → Trees → Type 0
  EachHoldsOnly xs Trees.none = Unit {0}
  EachHoldsOnly xs (Trees.more first others) = HoldsOnly xs first × EachHoldsOnly xs others
