use Rattle.std.proofs.Common.{drop}
use Rattle.lq_goals_rows.specs.Looks.{AreRising}
use Rattle.lq_goals_rows.proofs.views.are_rising.Given as goal

-- all rise where those that are left rise
abbrev pub invariant-loop-goal : goal.invariant-loop-goal
invariant-loop-goal l = AreRising l.low l.count (drop l.goal-index l.goals) → AreRising 0 l.count l.goals
