use Rattle.std.proofs.Common.{arith}
use Rattle.lq_script.proofs.Fronts.{appends_more}
use Rattle.lq_script.proofs.transfer.write_all.Goals as goal

pub loop-written-preserved : goal.loop-written-preserved
loop-written-preserved g c = record {
  bound = omega (arith, c.in_ok-count.ensures.bound);
  written = appends_more _ _ _ c.args.bytes.now c.loop-written.written c.in_ok-count.count c.loop-written.invariant.written c.in_ok-count.ensures.bytes;
  later = omega arith;
}
