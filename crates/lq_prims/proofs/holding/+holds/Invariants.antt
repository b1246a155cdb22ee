use Rattle.std.proofs.Common.{◌≡◌, drop}
use Rattle.lq_prims.proofs.HoldLaws.{some_held}
use Rattle.lq_prims.proofs.holding.+holds.Given as goal

abbrev pub decreases-holds : goal.decreases-holds
decreases-holds l = l.term.place

-- the variable stands in an entry where it stands in one of those that are left
abbrev pub invariant-loop-entry : goal.invariant-loop-entry
invariant-loop-entry l = some_held l.bank l.variable l.entry-items ≡ some_held l.bank l.variable (drop l.entry-index l.entry-items)
