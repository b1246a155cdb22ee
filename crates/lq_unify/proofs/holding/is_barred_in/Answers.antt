use Rattle.std.proofs.Common.{◌∙◌, sym}
use Rattle.lq_evars.specs.Places.{store_of}
use Rattle.lq_unify.specs.Solutions.{places_of}
use Rattle.lq_unify.specs.Holding.{has_no_place}
use Rattle.lq_unify.proofs.LookLaws.{looking_first}
use Rattle.lq_unify.proofs.holding.is_barred_in.Goals as goal

pub run-requires-clause-looking : goal.run-requires-clause-looking
run-requires-clause-looking c = looking_first c.args.bank.now (store_of c.args.bank.now c.args.store.now) c.args.barred c.args.term c.requires.term c.requires.over

pub returns : goal.returns
returns c = c.is_barred.ensures ∙ sym (c.known_holding-holding.ensures.is (has_no_place (places_of c.args.bank.now c.args.places.now.entries)))
