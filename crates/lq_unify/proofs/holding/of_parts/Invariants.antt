use Rattle.std.proofs.Common.{◌≡◌, Bool, ◌||◌, take, map}
use Rattle.std.specs.List.{AllByRecursion}
use Rattle.lq_trees.specs.Tree.{Name}
use Rattle.lq_terms.specs.Terms.{HasName, tree_of}
use Rattle.lq_evars.specs.Places.{store_of}
use Rattle.lq_evars.specs.Reading.{as_read}
use Rattle.lq_unify.specs.Held.{one_holds}
use Rattle.lq_unify.specs.Holding.{tells}
use Rattle.lq_unify.proofs.holding.of_parts.Given as goal

abbrev pub invariant-loop-part : goal.invariant-loop-part
invariant-loop-part l = record {
  names : AllByRecursion (HasName l.bank) l.all.names.keys;
  told : (m : Name → Bool) → tells l.bank m l.all ≡ (l.variable || one_holds l.barred m (map (λ t. as_read (store_of l.bank l.store) (tree_of l.bank t)) (take l.part-index l.parts)));
}
