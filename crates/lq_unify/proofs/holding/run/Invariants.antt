use Rattle.lq_terms.specs.Terms.{tree_of}
use Rattle.lq_evars.specs.Places.{store_of}
use Rattle.lq_evars.specs.Reading.{IsIn, finish, weights}
use Rattle.lq_unify.specs.Holding.{looks_of, trees_held, Looking}
use Rattle.lq_unify.proofs.holding.run.Given as goal

abbrev pub invariant-loop-item : goal.invariant-loop-item
invariant-loop-item l = record {
  looking : Looking l.bank (store_of l.bank l.store) l.barred l.work.items l.known.entries;
  covers : IsIn (tree_of l.bank l.fn.term) (finish (looks_of l.bank l.work.items) (trees_held l.bank l.known.entries));
}

abbrev pub decreases-loop-item : goal.decreases-loop-item
decreases-loop-item l = weights (store_of l.bank l.store).values (looks_of l.bank l.work.items)
