use Rattle.std.proofs.Common.{◌≡◌, ◌≤◌, ◌+◌}
use Rattle.lq_elab.proofs.heads.pay_each.Given as goal

abbrev pub invariant-each : goal.invariant-each
invariant-each g l = record {
  paid : l.count + l.ticks.left ≡ l.due + l.fn.ticks.left;
  within : l.due ≤ l.count;
  budget : l.ticks.left + l.ticks.spent ≡ l.fn.ticks.left + l.fn.ticks.spent;
  counted : l.steps + l.fn.ticks.spent ≡ l.fn.steps + l.ticks.spent;
}

abbrev pub decreases-each : goal.decreases-each
decreases-each g l = l.due
