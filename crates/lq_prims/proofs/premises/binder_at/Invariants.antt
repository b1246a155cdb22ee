use Rattle.std.proofs.Common.{◌≡◌, ◌-◌, drop, map, length}
use Rattle.lq_terms.specs.Terms.{Terms, text_of}
use Rattle.lq_prims.specs.Applied.{binder_at}
use Rattle.lq_prims.proofs.premises.binder_at.Given as goal

-- the binder is to be found among those that are left
abbrev pub invariant-premises : goal.invariant-premises
invariant-premises l = (bank : Terms) → binder_at l.premises (map (text_of bank) l.names) l.variable ≡ binder_at (drop l.place l.premises) (map (text_of bank) (drop l.place l.names)) l.variable

-- the premises that are left
abbrev pub decreases-premises : goal.decreases-premises
decreases-premises l = length l.premises - l.place
