use Rattle.std.proofs.Common.{◌≡◌, ◌≤◌, ◌++◌, length, drop, reverse}
use Rattle.lq_kernel.proofs.looking.push_each.Given as goal

-- those from there on are on the stack
abbrev pub invariant-loop-left : goal.invariant-loop-left
invariant-loop-left l = record {
  inside : l.left ≤ length l.terms;
  pushed : l.stack.items ≡ l.initial.stack.items ++ reverse (drop l.left l.terms);
}

abbrev pub decreases-loop-left : goal.decreases-loop-left
decreases-loop-left l = l.left
