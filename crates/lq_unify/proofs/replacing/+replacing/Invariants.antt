use Rattle.std.proofs.Common.{◌≡◌, ◌+◌, ◌*◌, map, drop}
use Rattle.std.specs.List.{AllByRecursion}
use Rattle.lq_trees.specs.Size.{size}
use Rattle.lq_terms.specs.Terms.{HasTerm, Grows, tree_of}
use Rattle.lq_unify.specs.Parts.{heft}
use Rattle.lq_unify.specs.Solutions.{solutions, place_in, AreSolved}
use Rattle.lq_unify.proofs.SolutionLaws.{ahead}
use Rattle.lq_unify.proofs.replacing.+replacing.Given as goal

abbrev pub decreases-replaced_each : goal.decreases-replaced_each
decreases-replaced_each l = 2 * heft (map (tree_of l.bank.now) l.parts.now) + 1

abbrev pub decreases-replaced_in : goal.decreases-replaced_in
decreases-replaced_in l = 2 * size (tree_of l.bank.now l.term)

abbrev pub invariant-replaced_each-loop-part : goal.invariant-replaced_each-loop-part
invariant-replaced_each-loop-part l = record {
  grows : Grows l.fn.bank l.bank;
  has : AllByRecursion (HasTerm l.bank) l.answers.items;
  known : AreSolved l.bank l.how.barred l.how.stays l.places.entries l.known.entries;
  same : ahead l.how.barred (place_in l.fn.bank l.how.stays l.places.entries) (map (tree_of l.bank) l.answers.items)
      (solutions l.how.barred (place_in l.fn.bank l.how.stays l.places.entries) (map (tree_of l.fn.bank) (drop l.part-index l.parts)))
      ≡ solutions l.how.barred (place_in l.fn.bank l.how.stays l.places.entries) (map (tree_of l.fn.bank) l.parts);
}
