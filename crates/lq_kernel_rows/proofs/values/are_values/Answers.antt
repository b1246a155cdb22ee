use Rattle.std.proofs.Common.{arith}
use Rattle.lq_kernel_rows.proofs.Settling.{values_step}
use Rattle.lq_kernel_rows.proofs.values.are_values.Goals as goal

pub loop-left-preserved : goal.loop-left-preserved
loop-left-preserved c =
    (values_step c.args.bank.now c.args.hypothesis c.args.values.now c.loop-left.left (record { place = 0 }) c.loop-left-test.true c.loop-left.invariant.1 c.requires.hypothesis c.requires.values (c.stands.ensures c.if-not-stands.false) c.loop-left.invariant.0, omega (arith, c.loop-left.invariant.1))
