use Rattle.std.proofs.Common.{◌≡◌, map, drop, length}
use Rattle.lq_terms.specs.Terms.{tree_of}
use Rattle.lq_terms.specs.Contexts.{context_of}
use Rattle.lq_calculus.specs.Declarations.{are_variables}
use Rattle.lq_env.proofs.positivity.are_variables.Given as goal

abbrev pub invariant-loop-i : goal.invariant-loop-i
invariant-loop-i l = record {
  many : length l.context ≡ length l.terms;
  same : are_variables (context_of l.bank (drop l.i l.context)) (map (tree_of l.bank) (drop l.i l.terms)) ≡ are_variables (context_of l.bank l.context) (map (tree_of l.bank) l.terms);
}
