use Rattle.std.proofs.Common.{◌≤◌, length}
use Rattle.lq_unify.specs.Solutions.{HasPlaces}
use Rattle.lq_elab.proofs.NameLaws.{HasFrom}
use Rattle.lq_elab.proofs.naming.places_in.Given as goal

abbrev pub invariant-loop-i : goal.invariant-loop-i
invariant-loop-i l = record {
  within : l.i ≤ length l.context;
  has : HasPlaces l.bank l.places.entries;
  are : HasFrom l.bank l.context l.places.entries l.i;
}
