use Rattle.std.proofs.Common.{◌∙◌, arith}
use Rattle.lq_evars.proofs.Walks.{paired_past}
use Rattle.lq_evars.proofs.comparing.push_each.Goals as goal

pub returns-then-i-right : goal.returns-then-i-right
returns-then-i-right c = paired_past c.loop-i.work.items c.args.left.now c.args.right.now c.loop-i.i (omega (arith, c.if-i-right.true)) ∙ c.loop-i.invariant
