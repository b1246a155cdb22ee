use Rattle.std.proofs.Common.{◌≡◌, ◌≤◌, length}
use Rattle.lq_trees.specs.Tree.{Name, value_of}
use Rattle.lq_terms.specs.Terms.{Grows}
use Rattle.lq_unify.specs.Solutions.{places_of, HasPlaces}
use Rattle.lq_unify.proofs.InvertLaws.{places_behind}
use Rattle.lq_unify.proofs.inverting.places_for.Given as goal

abbrev pub invariant-loop-i : goal.invariant-loop-i
invariant-loop-i l = record {
  within : l.i ≤ length l.context;
  grows : Grows l.fn.bank l.bank;
  has : HasPlaces l.bank l.places.entries;
  are : (x : Name) → value_of (places_of l.bank l.places.entries) x ≡ places_behind l.fn.bank l.context l.entries l.i x;
}
