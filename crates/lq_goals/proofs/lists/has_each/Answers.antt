use Rattle.std.proofs.Common.{◌∙◌, sym}
use Rattle.lq_goals.proofs.ListLoops.{each_lacks, each_on, each_end}
use Rattle.lq_goals.proofs.lists.has_each.Goals as goal

pub returns-then-not-has : goal.returns-then-not-has
returns-then-not-has c = each_lacks c.args.goals.now c.args.wanted.now c.loop-goal.goal-index _ c.loop-goal-test.true (sym c.has.ensures ∙ c.if-not-has.true) c.loop-goal.invariant

pub loop-goal-preserved : goal.loop-goal-preserved
loop-goal-preserved c = each_on c.args.goals.now c.args.wanted.now c.loop-goal.goal-index _ c.loop-goal-test.true (sym c.has.ensures ∙ c.if-not-has.false) c.loop-goal.invariant

pub returns : goal.returns
returns c = each_end c.args.goals.now c.args.wanted.now c.loop-goal.goal-index c.loop-goal-test.false c.loop-goal.invariant
