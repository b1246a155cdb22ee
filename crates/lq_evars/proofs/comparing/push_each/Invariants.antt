use Rattle.std.proofs.Common.{◌≡◌, ◌++◌, drop}
use Rattle.lq_evars.specs.Closures.{paired}
use Rattle.lq_evars.proofs.comparing.push_each.Given as goal

abbrev pub invariant-loop-i : goal.invariant-loop-i
invariant-loop-i l = l.work.items ++ paired (drop l.i l.left) (drop l.i l.right) ≡ l.fn.work.items ++ paired l.left l.right
