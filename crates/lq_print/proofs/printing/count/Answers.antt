use Rattle.std.proofs.Common.{ap, length, arith}
use Rattle.lq_print.proofs.printing.count.Goals as goal

pub returns : goal.returns
returns c =
    omega (arith, ap length c.in_ok-hypotheses.ensures.items, ap length c.hypotheses.ensures, c.in_ok-hypotheses.hypotheses.ok, c.in_ok-hypotheses.hypotheses.small)
