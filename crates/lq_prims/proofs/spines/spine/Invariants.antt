use Rattle.std.proofs.Common.{◌≡◌, [], map}
use Rattle.std.specs.Prelude.{reverse}
use Rattle.std.specs.List.{AllByRecursion}
use Rattle.lq_trees.specs.Size.{size}
use Rattle.lq_terms.specs.Terms.{HasTerm, tree_of}
use Rattle.lq_calculus.specs.Contraction.{spine}
use Rattle.lq_prims.proofs.spines.spine.Given as goal

abbrev pub invariant-loop-function : goal.invariant-loop-function
invariant-loop-function l = record {
  has : AllByRecursion (HasTerm l.bank) l.arguments.items;
  head : HasTerm l.bank l.head;
  same : spine (tree_of l.bank l.fn.term) [] ≡ spine (tree_of l.bank l.head) (map (tree_of l.bank) (reverse l.arguments.items));
}

abbrev pub decreases-loop-function : goal.decreases-loop-function
decreases-loop-function l = size (tree_of l.bank l.head)
