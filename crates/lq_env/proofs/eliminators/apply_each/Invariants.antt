use Rattle.std.proofs.Common.{map, take}
use Rattle.lq_trees.specs.Change.{fill}
use Rattle.lq_terms.specs.Terms.{IsTerm, Grows, tree_of}
use Rattle.lq_terms.specs.Changes.{variables_at}
use Rattle.lq_calculus.specs.Contraction.{apply}
use Rattle.lq_env.proofs.eliminators.apply_each.Given as goal

abbrev pub invariant-loop-i : goal.invariant-loop-i
invariant-loop-i l = record {
  grown : Grows l.initial.bank l.bank;
  whole : IsTerm l.bank l.whole (apply (tree_of l.initial.bank l.fn.function) (map (fill (variables_at l.inside l.places) 0) (map (tree_of l.initial.bank) (take l.i l.terms))));
}
