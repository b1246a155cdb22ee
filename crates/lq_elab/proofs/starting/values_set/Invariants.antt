use Rattle.std.proofs.Common.{◌≤◌, length, drop}
use Rattle.lq_terms.specs.Contexts.{context_of}
use Rattle.lq_elab.specs.Scopes.{IsScope}
use Rattle.lq_elab.specs.Starting.{named_value}
use Rattle.lq_elab.specs.States.{givens_of}
use Rattle.lq_elab.proofs.starting.values_set.Given as goal

abbrev pub invariant-loop-i : goal.invariant-loop-i
invariant-loop-i l = record {
  within : l.i ≤ length l.values;
  is : IsScope l.bank (named_value (context_of l.bank l.context) (givens_of l.bank (drop l.i l.values))) l.scope;
}
