use Rattle.lq_goals.proofs.ListLoops.{has_found, has_on, has_end}
use Rattle.lq_prims.proofs.listing.has.Goals as goal

pub returns-then-listed-goal : goal.returns-then-listed-goal
returns-then-listed-goal c = has_found c.args.goals.now c.args.goal c.loop-listed.listed-index _ c.loop-listed-test.true c.if-listed-goal.true c.loop-listed.invariant

pub loop-listed-preserved : goal.loop-listed-preserved
loop-listed-preserved c = has_on c.args.goals.now c.args.goal c.loop-listed.listed-index _ c.loop-listed-test.true c.if-listed-goal.false c.loop-listed.invariant

pub returns : goal.returns
returns c = has_end c.args.goals.now c.args.goal c.loop-listed.listed-index c.loop-listed-test.false c.loop-listed.invariant
