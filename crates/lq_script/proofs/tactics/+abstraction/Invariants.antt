use Rattle.std.proofs.Common.{length}
use Rattle.lq_script.proofs.tactics.+abstraction.Given as goal

abbrev pub decreases-abstraction : goal.decreases-abstraction
decreases-abstraction l = length l.hypotheses.now
