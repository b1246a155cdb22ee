use Rattle.std.proofs.Common.{refl, arith}
use Rattle.lq_kernel.proofs.Leaves.{is_above_base, is_above_level}
use Rattle.lq_elab.proofs.LeafLaws.{last_level}
use Rattle.lq_elab.proofs.leaves.above.Goals as goal

pub returns-in-Base : goal.returns-in-Base
returns-in-Base c = is_above_base c.args.sort 0 c.in-Base.is refl

pub returns-in-Level : goal.returns-in-Level
returns-in-Level c = is_above_level c.args.sort c.in-Level.level _ c.in-Level.is c.if-level-lt-LAST_LEVEL.true refl

pub returns-in-Level-2 : goal.returns-in-Level-2
returns-in-Level-2 c = last_level c.args.sort c.in-Level.level (cc) (omega arith)
