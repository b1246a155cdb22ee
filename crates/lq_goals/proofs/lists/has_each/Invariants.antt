use Rattle.std.proofs.Common.{◌≡◌, drop}
use Rattle.lq_states.specs.Goals.{has_each}
use Rattle.lq_goals.proofs.lists.has_each.Given as goal

-- the list has each of the goals where it has each of those that are left
abbrev pub invariant-loop-goal : goal.invariant-loop-goal
invariant-loop-goal l = has_each l.goals l.wanted ≡ has_each l.goals (drop l.goal-index l.wanted)
