use Rattle.std.proofs.Common.{◌≡◌, ◌≤◌, length, drop}
use Rattle.lq_trees.specs.Tree.{Name, value_of}
use Rattle.lq_terms.specs.Changes.{bindings}
use Rattle.lq_unify.specs.Solutions.{places_of, HasPlaces}
use Rattle.lq_unify.proofs.givens.given_for.Given as goal

abbrev pub invariant-loop-i : goal.invariant-loop-i
invariant-loop-i l = record {
  within : l.i ≤ length l.context;
  has : HasPlaces l.bank l.given.entries;
  are : (x : Name) → value_of (places_of l.bank l.given.entries) x ≡ value_of (bindings l.bank (drop l.i l.context) (drop l.i l.terms)) x;
}
