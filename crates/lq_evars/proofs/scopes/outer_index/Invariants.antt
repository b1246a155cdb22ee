use Rattle.std.proofs.Common.{◌≡◌, ◌≤◌, length}
use Rattle.lq_evars.specs.Scopes.{outer}
use Rattle.lq_evars.specs.Closures.{AroundIn, scope_of}
use Rattle.lq_evars.proofs.Walks.{height}
use Rattle.lq_evars.proofs.scopes.outer_index.Given as goal

abbrev pub invariant-loop-at : goal.invariant-loop-at
invariant-loop-at l = record {
  place : AroundIn (length l.links) l.at;
  left : l.left ≤ l.fn.index;
  same : outer (scope_of l.bank l.links l.at) l.depth l.left ≡ outer (scope_of l.bank l.links l.fn.around) l.depth l.fn.index;
}

abbrev pub decreases-loop-at : goal.decreases-loop-at
decreases-loop-at l = height l.at
