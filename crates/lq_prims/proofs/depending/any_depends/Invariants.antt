use Rattle.std.proofs.Common.{◌≡◌, drop}
use Rattle.lq_evars.specs.Places.{store_of}
use Rattle.lq_tactics.specs.Applying.{any_depends}
use Rattle.lq_prims.proofs.depending.any_depends.Given as goal

-- whether one of those that are left depends tells whether one of all does
abbrev pub invariant-loop-variable : goal.invariant-loop-variable
invariant-loop-variable l = any_depends (store_of l.bank l.store) l.other l.variables ≡ any_depends (store_of l.bank l.store) l.other (drop l.variable-index l.variables)
