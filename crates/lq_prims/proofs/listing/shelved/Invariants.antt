use Rattle.std.proofs.Common.{◌≡◌, ◌++◌}
use Rattle.lq_terms.specs.Terms.{Terms}
use Rattle.lq_solving.specs.Kept.{IsStore}
use Rattle.lq_evars.specs.Places.{store_of}
use Rattle.lq_prims.proofs.ShelfLaws.{rest}
use Rattle.lq_prims.proofs.listing.shelved.Given as goal

-- those that were found, and those that are left to find
abbrev pub invariant-loop-variable : goal.invariant-loop-variable
invariant-loop-variable l = (bank : Terms) → IsStore (store_of bank l.store) → l.shelved.items ++ rest l.goals (store_of bank l.store) l.variable ≡ rest l.goals (store_of bank l.store) l.before
