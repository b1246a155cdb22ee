use Rattle.lq_terms.specs.Terms.{tree_of}
use Rattle.lq_terms.specs.Contexts.{context_of}
use Rattle.lq_solving.specs.Stores.{names_in}
use Rattle.lq_evars.specs.Places.{store_of}
use Rattle.lq_unify.specs.Solutions.{places_of}
use Rattle.lq_unify.specs.Holding.{has_no_place}
use Rattle.lq_prims.proofs.DependLaws.{read_holds}
use Rattle.lq_prims.proofs.holding.reads_with.Goals as goal

pub is_barred_in-requires-clause-over : goal.is_barred_in-requires-clause-over
is_barred_in-requires-clause-over c = c.requires.stands.over

pub returns : goal.returns
returns c =
    read_holds (names_in (context_of c.args.bank.now c.args.context.now)) c.args.variable (has_no_place (places_of c.args.bank.now c.in_ok-places.places.entries)) c.in_ok-places.ensures.are
    (store_of c.args.bank.now c.args.store.now) (tree_of c.args.bank.now c.args.term) c.requires.stands.holds c.is_barred_in.result c.is_barred_in.ensures
