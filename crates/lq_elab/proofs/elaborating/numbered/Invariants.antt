use Rattle.std.proofs.Common.{◌≡◌, ◌≤◌, ◌-◌, ◌++◌}
use Rattle.lq_solving.specs.Elaboration.{numbers}
use Rattle.lq_elab.proofs.elaborating.numbered.Given as goal

abbrev pub invariant-loop-number : goal.invariant-loop-number
invariant-loop-number l = record {
  within : l.number ≤ l.end;
  are : l.made.items ++ numbers l.number (l.end - l.number) ≡ numbers l.first (l.end - l.first);
}
