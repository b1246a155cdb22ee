use Rattle.std.proofs.Common.{◌≡◌, ◌≤◌, sym, arith}
use Rattle.std.proofs.Common.{subst as along}
use Rattle.std.proofs.lemmas.List.{length-map}
use Rattle.std.specs.Prelude.{not}
use Rattle.lq_trees.specs.Fresh.{is_listed}
use Rattle.lq_terms.specs.Terms.{tree_of}
use Rattle.lq_terms.specs.Contexts.{context_of}
use Rattle.lq_solving.specs.Stores.{names_in}
use Rattle.lq_evars.specs.Places.{store_of, variable_of}
use Rattle.lq_unify.specs.Solutions.{places_of}
use Rattle.lq_unify.specs.Holding.{has_no_place}
use Rattle.lq_elab.proofs.NameLaws.{strange_by}
use Rattle.lq_elab.proofs.naming.holds_others.Goals as goal

pub returns : goal.returns
returns c =
    strange_by _ (store_of c.args.bank.now c.args.store.now) c.requires.kept (names_in (context_of c.args.bank.now c.args.context.now)) 4294967295 (has_no_place (places_of c.args.bank.now c.in_ok-places.places.entries))
    (along (λ n. n ≤ 4294967295) (sym (length-map c.args.store.now.variables (variable_of c.args.bank.now))) (omega (arith, c.requires.count, c.ranges.count.fits)))
    (λ x. along (λ k. has_no_place (places_of c.args.bank.now c.in_ok-places.places.entries) x ≡ not (is_listed (names_in (context_of c.args.bank.now k)) x)) c.hypotheses.ensures (c.in_ok-places.ensures.are x)) (tree_of c.args.bank.now c.args.term) c.requires.over c.is_barred_in.result c.is_barred_in.ensures
