use Rattle.lq_terms.specs.Terms.{tree_of, trees_by}
use Rattle.lq_solving.specs.Unification.{place_of}
use Rattle.lq_unify.specs.Solutions.{names_of}
use Rattle.lq_unify.proofs.UnsolvableLaws.{store_has, store_kept, term_has, term_over, unsolvable_if}
use Rattle.lq_unify.proofs.inverting.is_unsolvable.Goals as goal

pub is_barred_in-requires-clause-store : goal.is_barred_in-requires-clause-store
is_barred_in-requires-clause-store c = store_has c.args.bank.now c.places_for.new.bank c.in_ok-places.ensures.grows c.args.store.now c.requires.store

pub is_barred_in-requires-clause-kept : goal.is_barred_in-requires-clause-kept
is_barred_in-requires-clause-kept c = store_kept c.args.bank.now c.places_for.new.bank c.in_ok-places.ensures.grows c.args.store.now c.requires.store c.requires.kept

pub is_barred_in-requires-clause-term : goal.is_barred_in-requires-clause-term
is_barred_in-requires-clause-term c = term_has c.args.bank.now c.places_for.new.bank c.in_ok-places.ensures.grows c.args.store.now c.requires.store c.args.term c.requires.term

pub is_barred_in-requires-clause-over : goal.is_barred_in-requires-clause-over
is_barred_in-requires-clause-over c = term_over c.args.bank.now c.places_for.new.bank c.in_ok-places.ensures.grows c.args.store.now c.requires.store c.args.term c.requires.term c.requires.over

pub returns-clause-is : goal.returns-clause-is
returns-clause-is c =
    unsolvable_if c.args.bank.now c.places_for.new.bank c.in_ok-places.ensures.grows c.args.store.now c.requires.store c.args.term c.requires.term c.in_ok-places.places.entries
    (place_of (names_of c.args.bank.now c.args.context.now) (trees_by (tree_of c.args.bank.now) c.args.entries.now)) (λ x. c.in_ok-places.ensures.are x) c.args.variable c.is_barred_in.result c.is_barred_in.ensures
