use Rattle.std.proofs.Common.{◌≡◌, drop}
use Rattle.lq_states.specs.Goals.{has}
use Rattle.lq_prims.proofs.listing.has.Given as goal

-- the goal is in the list where it is among those that are left
abbrev pub invariant-loop-listed : goal.invariant-loop-listed
invariant-loop-listed l = has l.goals l.goal ≡ has (drop l.listed-index l.goals) l.goal
