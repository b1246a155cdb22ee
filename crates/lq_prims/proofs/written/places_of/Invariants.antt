use Rattle.std.proofs.Common.{take}
use Rattle.lq_terms.specs.Terms.{Grows}
use Rattle.lq_prims.specs.Leaving.{AreNames}
use Rattle.lq_prims.proofs.written.places_of.Given as goal

-- the places of the names so far
abbrev pub invariant-loop-name : goal.invariant-loop-name
invariant-loop-name l = record {
  places : AreNames l.bank l.places.items (take l.name-index l.names);
  grows : Grows l.fn.bank l.bank;
}
