use Rattle.std.proofs.Common.{◌≡◌}
use Rattle.lq_terms.specs.Terms.{Grows, tree_of}
use Rattle.lq_solving.specs.Stores.{read}
use Rattle.lq_evars.specs.Places.{store_of}
use Rattle.lq_unify.specs.Heads.{head_rank}
use Rattle.lq_unify.specs.Exposing.{IsOfStore}
use Rattle.lq_unify.proofs.exposing.exposed.Given as goal

abbrev pub invariant-loop-next : goal.invariant-loop-next
invariant-loop-next l = record {
  grows : Grows l.fn.bank l.bank;
  term : IsOfStore l.bank (store_of l.fn.bank l.store) l.exposed;
  reads : read (store_of l.fn.bank l.store) (tree_of l.bank l.exposed) ≡ read (store_of l.fn.bank l.store) (tree_of l.fn.bank l.fn.term);
}

abbrev pub decreases-loop-next : goal.decreases-loop-next
decreases-loop-next l = head_rank (store_of l.fn.bank l.store).values (tree_of l.bank l.exposed)
