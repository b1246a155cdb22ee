use Rattle.std.proofs.Common.{◌≡◌, ◌++◌, drop}
use Rattle.lq_evars.specs.Places.{store_of}
use Rattle.lq_tactics.specs.Applying.{dependent_in}
use Rattle.lq_prims.specs.Opening.{opening_of}
use Rattle.lq_prims.proofs.premises.dependent_in.Given as goal

-- those that were found, and those that are left to find
abbrev pub invariant-loop-variable : goal.invariant-loop-variable
invariant-loop-variable l =
    l.found.items ++ dependent_in (store_of l.bank l.opening.store) (opening_of l.bank l.opening) (drop l.variable-index l.variables)
    ≡ dependent_in (store_of l.bank l.opening.store) (opening_of l.bank l.opening) l.variables
