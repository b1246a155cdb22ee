use Rattle.std.proofs.Common.{◌≡◌, length, take}
use Rattle.lq_unify.proofs.resuming.shorten.Given as goal

abbrev pub invariant-longer : goal.invariant-longer
invariant-longer l = take l.mark l.context ≡ take l.mark l.fn.context

abbrev pub decreases-longer : goal.decreases-longer
decreases-longer l = length l.context
