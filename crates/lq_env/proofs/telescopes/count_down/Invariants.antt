use Rattle.std.proofs.Common.{◌≡◌, ◌≤◌, ◌++◌, map}
use Rattle.std.specs.List.{AllByRecursion}
use Rattle.lq_terms.specs.Terms.{HasTerm, Grows, tree_of}
use Rattle.lq_calculus.specs.Declarations.{count_down}
use Rattle.lq_env.proofs.telescopes.count_down.Given as goal

abbrev pub invariant-loop-left : goal.invariant-loop-left
invariant-loop-left l = record {
  few : l.left ≤ 1000000;
  grown : Grows l.initial.bank l.bank;
  has : AllByRecursion (HasTerm l.bank) l.variables.items;
  trees : map (tree_of l.bank) l.variables.items ++ count_down l.left ≡ count_down l.count;
}

abbrev pub decreases-loop-left : goal.decreases-loop-left
decreases-loop-left l = l.left
