use Rattle.std.proofs.Common.{arith}
use Rattle.lq_syntax.proofs.FailLaws.{one_counted, all_counted}
use Rattle.lq_syntax.proofs.wholes.count_fails.Goals as goal

pub fails-smaller : goal.fails-smaller
fails-smaller c = omega (arith, (one_counted c.fails.count c.args.words.now c.begins_with_fail.result c.begins_with_fail.ensures c.fails-test.true).1)

pub fails-preserved : goal.fails-preserved
fails-preserved c =
    let r = one_counted c.fails.count c.args.words.now c.begins_with_fail.result c.begins_with_fail.ensures c.fails-test.true in
    (omega (arith, r.1), omega (arith, r.0, c.fails.invariant.1))

pub returns-clause-count : goal.returns-clause-count
returns-clause-count c =
    omega (arith, c.fails.invariant.1, all_counted c.fails.count c.args.words.now c.begins_with_fail.result c.begins_with_fail.ensures c.fails-test.false)
