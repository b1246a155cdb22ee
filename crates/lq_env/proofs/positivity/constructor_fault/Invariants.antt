use Rattle.std.proofs.Common.{◌≡◌, ◌≤◌, ◌+◌, ◌^◌}
use Rattle.lq_trees.specs.Size.{depth}
use Rattle.lq_terms.specs.Terms.{HasTerm, text_of, tree_of}
use Rattle.lq_calculus.specs.Declarations.{constructor_fault}
use Rattle.lq_env.specs.Families.{family_of}
use Rattle.lq_env.proofs.positivity.constructor_fault.Given as goal

abbrev pub invariant-loop-argument : goal.invariant-loop-argument
invariant-loop-argument l = record {
  has : HasTerm l.bank l.rest;
  few : l.number + depth (tree_of l.bank l.rest) ≤ 2 ^ 64;
  same : constructor_fault (family_of l.bank l.family) (text_of l.bank l.constructor) l.number (tree_of l.bank l.rest) ≡ constructor_fault (family_of l.bank l.family) (text_of l.bank l.constructor) 1 (tree_of l.bank l.fn.kind);
}

abbrev pub decreases-loop-argument : goal.decreases-loop-argument
decreases-loop-argument l = depth (tree_of l.bank l.rest)
