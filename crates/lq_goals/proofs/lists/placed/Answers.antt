use Rattle.std.proofs.Common.{◌∙◌, ap, ◌++◌, drop, ◌+◌}
use Rattle.lq_states.specs.Goals.{placed}
use Rattle.lq_goals.proofs.ListLoops.{placed_on, placed_end}
use Rattle.lq_goals.proofs.lists.placed.Goals as goal

pub loop-goal-preserved : goal.loop-goal-preserved
loop-goal-preserved c =
    ap (λ z. z ++ placed c.args.first c.args.taken.now c.args.left.now (drop (c.loop-goal.goal-index + 1) c.args.goals.now)) c.in_ok-add.ensures
    ∙ placed_on c.args.first c.args.taken.now c.args.left.now c.args.goals.now c.loop-goal.goal-index _ c.loop-goal.made.items c.loop-goal-test.true c.loop-goal.invariant

pub returns : goal.returns
returns c = placed_end c.args.first c.args.taken.now c.args.left.now c.args.goals.now c.loop-goal.goal-index c.loop-goal.made.items c.loop-goal-test.false c.loop-goal.invariant
