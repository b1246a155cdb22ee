use Rattle.std.proofs.Common.{◌≡◌, Bool, ◌||◌, take}
use Rattle.std.specs.List.{AllByRecursion}
use Rattle.lq_trees.specs.Tree.{Name}
use Rattle.lq_terms.specs.Terms.{HasName}
use Rattle.lq_evars.specs.Places.{store_of}
use Rattle.lq_unify.specs.Solutions.{places_of}
use Rattle.lq_unify.specs.Holding.{one_marked, tells, marked_through}
use Rattle.lq_unify.proofs.holding.add_each_standing.Given as goal

abbrev pub invariant-loop-name : goal.invariant-loop-name
invariant-loop-name l = record {
  names : AllByRecursion (HasName l.bank) l.all.names.keys;
  told : (m : Name → Bool) → tells l.bank m l.all ≡ (tells l.bank m l.fn.all || one_marked l.bank (marked_through l.barred m (store_of l.bank l.store) (places_of l.bank l.given.entries)) (take l.name-index l.names));
}
