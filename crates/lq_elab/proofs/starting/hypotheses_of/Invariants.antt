use Rattle.std.proofs.Common.{◌≤◌, length, drop}
use Rattle.lq_terms.specs.Contexts.{context_of}
use Rattle.lq_elab.specs.Scopes.{IsScope}
use Rattle.lq_elab.specs.Starting.{named_hypothesis}
use Rattle.lq_elab.proofs.starting.hypotheses_of.Given as goal

abbrev pub invariant-loop-i : goal.invariant-loop-i
invariant-loop-i l = record {
  within : l.i ≤ length l.context;
  is : IsScope l.bank (named_hypothesis (context_of l.bank (drop l.i l.context))) l.scope;
}
