use Rattle.std.proofs.Common.{arith}
use Rattle.lq_print.proofs.Lists.{marks_at, marks_none}
use Rattle.lq_print.proofs.spelling.mark.Goals as goal

pub returns-in-Some : goal.returns-in-Some
returns-in-Some c = marks_at c.args.flags.now.items c.args.index c.in-Some.place (omega (arith, c.in-Some.ensures))

pub returns-in_default : goal.returns-in_default
returns-in_default c = marks_none c.args.flags.now.items c.args.index (omega (arith, c.in_default.ensures))
