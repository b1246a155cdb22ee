use Rattle.std.proofs.Common.{arith}
use Rattle.lq_kernel.proofs.Leaves.{is_above_base, is_above_level, sort_typed, sort_untyped}
use Rattle.lq_kernel.proofs.lookups.sort_type.Goals as goal
use Rattle.lq_kernel.proofs.lookups.sort_type.Goals.{in-Base, in-Level}

pub returns-in-Level-2-clause-answer : goal.returns-in-Level-2-clause-answer
returns-in-Level-2-clause-answer c o E G b = sort_untyped o E G c.args.sort b c.in-Level.level (cc) (omega arith)

pub returns-clause-answer : goal.returns-clause-answer
returns-clause-answer c o E G b =
    sort_typed o E G c.args.sort b c.make.new.self c.in_ok-make.field-0 c.match-sort.level c.in_ok-make.ensures.made
    (elim c.match-sort.branch [
      | in-Base w ↦ is_above_base c.args.sort c.match-sort.level w.in-Base.is w.level-is
      | in-Level w ↦ is_above_level c.args.sort w.in-Level.level c.match-sort.level w.in-Level.is w.if-level-lt-LAST_LEVEL.true w.level-is
    ])
