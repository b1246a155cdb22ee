use Rattle.std.proofs.Common.{take}
use Rattle.lq_terms.specs.Terms.{IsTerm, Grows, tree_of}
use Rattle.lq_terms.specs.Contexts.{context_of}
use Rattle.lq_calculus.specs.Contraction.{apply}
use Rattle.lq_calculus.specs.Declarations.{variables}
use Rattle.lq_env.proofs.eliminators.apply_hypotheses.Given as goal

abbrev pub invariant-loop-hypothesis : goal.invariant-loop-hypothesis
invariant-loop-hypothesis l = record {
  grown : Grows l.initial.bank l.bank;
  whole : IsTerm l.bank l.whole (apply (tree_of l.initial.bank l.fn.function) (variables (context_of l.initial.bank (take l.hypothesis-index l.context))));
}
