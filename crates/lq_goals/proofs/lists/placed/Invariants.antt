use Rattle.std.proofs.Common.{◌≡◌, ◌++◌, drop}
use Rattle.lq_states.specs.Goals.{placed}
use Rattle.lq_goals.proofs.lists.placed.Given as goal

-- what is made, and what the goals that are left come to
abbrev pub invariant-loop-goal : goal.invariant-loop-goal
invariant-loop-goal l = l.made.items ++ placed l.first l.taken l.left (drop l.goal-index l.goals) ≡ placed l.first l.taken l.left l.goals
