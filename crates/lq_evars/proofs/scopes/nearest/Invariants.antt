use Rattle.std.proofs.Common.{length}
use Rattle.lq_evars.specs.Places.{store_of}
use Rattle.lq_evars.specs.Closures.{AroundIn, SameNames, scope_of}
use Rattle.lq_evars.proofs.Walks.{height}
use Rattle.lq_evars.proofs.scopes.nearest.Given as goal

abbrev pub invariant-loop-at : goal.invariant-loop-at
invariant-loop-at l = record {
  place : AroundIn (length l.links) l.at;
  same : SameNames (store_of l.bank l.store) (scope_of l.bank l.links l.fn.around) (scope_of l.bank l.links l.at);
}

abbrev pub decreases-loop-at : goal.decreases-loop-at
decreases-loop-at l = height l.at
