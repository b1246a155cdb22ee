use Rattle.std.proofs.Common.{◌≡◌, ◌++◌, drop}
use Rattle.lq_terms.specs.Terms.{Terms}
use Rattle.lq_solving.specs.Kept.{IsStore}
use Rattle.lq_evars.specs.Places.{store_of}
use Rattle.lq_prims.proofs.PremiseLaws.{open_but}
use Rattle.lq_prims.proofs.listing.open_without.Given as goal

-- those that were found, and those that are left to find
abbrev pub invariant-loop-variable : goal.invariant-loop-variable
invariant-loop-variable l = (bank : Terms) → IsStore (store_of bank l.store) →
    l.found.items ++ open_but (store_of bank l.store) l.but (drop l.variable-index l.variables) ≡ open_but (store_of bank l.store) l.but l.variables
