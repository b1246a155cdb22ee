use Rattle.std.proofs.Common.{◌≤◌, length}
use Rattle.lq_kernel_rows.proofs.Settling.{AreFrom}
use Rattle.lq_kernel_rows.proofs.values.are_values.Given as goal

-- the values from there on are as reduction takes them
abbrev pub invariant-loop-left : goal.invariant-loop-left
invariant-loop-left l = AreFrom l.bank l.fn.hypothesis l.values l.left × (l.left ≤ length l.values)

abbrev pub decreases-loop-left : goal.decreases-loop-left
decreases-loop-left l = l.left
