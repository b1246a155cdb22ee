use Rattle.std.proofs.Common.{rules}
use Rattle.lq_kernel_edits.proofs.reduction.compares.Goals as goal

pub returns-clause-answer : goal.returns-clause-answer
returns-clause-answer g c = search rules
