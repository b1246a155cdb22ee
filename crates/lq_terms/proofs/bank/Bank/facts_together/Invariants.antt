use Rattle.std.proofs.Common.{◌≡◌, ◌+◌, max, min, drop, ◌||◌}
use Rattle.lq_trees.specs.Size.{sizes, deepest, counted}
use Rattle.lq_trees.specs.Marks.{loose_of, hold_hypothesis}
use Rattle.lq_terms.specs.Terms.{tree_of, trees_by}
use Rattle.lq_terms.specs.Facts.{IsSmall}
use Rattle.lq_terms.proofs.bank.Bank.facts_together.Given as goal

abbrev pub invariant-loop-term : goal.invariant-loop-term
invariant-loop-term l = record {
  small : IsSmall l.total;
  size : min (l.total.measure.size + sizes (trees_by (tree_of l.self) (drop l.term-index l.terms))) counted ≡ min (sizes (trees_by (tree_of l.self) l.terms)) counted;
  depth : max l.total.measure.depth (deepest (trees_by (tree_of l.self) (drop l.term-index l.terms))) ≡ deepest (trees_by (tree_of l.self) l.terms);
  loose : max l.total.loose (loose_of (trees_by (tree_of l.self) (drop l.term-index l.terms))) ≡ loose_of (trees_by (tree_of l.self) l.terms);
  hypothesis : (l.total.holds_hypothesis || hold_hypothesis (trees_by (tree_of l.self) (drop l.term-index l.terms))) ≡ hold_hypothesis (trees_by (tree_of l.self) l.terms);
}
