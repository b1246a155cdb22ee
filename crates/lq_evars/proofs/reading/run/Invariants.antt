use Rattle.lq_terms.specs.Terms.{Grows, tree_of}
use Rattle.lq_evars.specs.Places.{store_of}
use Rattle.lq_evars.specs.Reading.{IsIn, finish, items_of, trees_known, weights, Reading}
use Rattle.lq_evars.proofs.reading.run.Given as goal

abbrev pub invariant-loop-item : goal.invariant-loop-item
invariant-loop-item l = record {
  grown : Grows l.initial.bank l.bank;
  reading : Reading l.bank l.store l.work.items l.known.entries;
  covers : IsIn (tree_of l.initial.bank l.term) (finish (items_of l.bank l.work.items) (trees_known l.bank l.known.entries));
}

abbrev pub decreases-loop-item : goal.decreases-loop-item
decreases-loop-item l = weights (store_of l.initial.bank l.store).values (items_of l.bank l.work.items)
