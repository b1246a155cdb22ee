use Rattle.std.proofs.Common.{◌≡◌, ◌++◌, drop}
use Rattle.lq_evars.specs.Places.{store_of}
use Rattle.lq_tactics.specs.Primitives.{independent}
use Rattle.lq_prims.proofs.depending.independent.Given as goal

-- those that were found, and those that are left to find
abbrev pub invariant-loop-variable : goal.invariant-loop-variable
invariant-loop-variable l =
    l.found.items ++ independent (store_of l.bank l.store) l.variables (drop l.variable-index l.variables) ≡ independent (store_of l.bank l.store) l.variables l.variables
