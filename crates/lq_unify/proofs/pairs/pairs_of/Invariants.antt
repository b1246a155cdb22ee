use Rattle.std.proofs.Common.{◌≡◌, map}
use Rattle.std.specs.List.{AllByRecursion}
use Rattle.lq_trees.specs.Tree.{Context}
use Rattle.lq_terms.specs.Terms.{tree_of}
use Rattle.lq_solving.specs.Unification.{parts_of}
use Rattle.lq_unify.specs.Pairs.{HasPair}
use Rattle.lq_unify.proofs.PairLaws.{pairs_behind, found_ahead}
use Rattle.lq_unify.proofs.pairs.pairs_of.Given as goal

abbrev pub invariant-loop-i : goal.invariant-loop-i
invariant-loop-i l = record {
  has : AllByRecursion (HasPair l.bank) l.pairs.items;
  same : (g : Context) → found_ahead l.bank g l.left l.right l.pairs.items (pairs_behind l.bank g l.left l.right l.i) ≡ parts_of g (map (tree_of l.bank) l.left) (map (tree_of l.bank) l.right);
}
