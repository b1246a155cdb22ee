use Rattle.std.proofs.Common.{◌≡◌, ◌∙◌, ap, IfOk, Some}
use Rattle.std.proofs.Common.{subst as along}
use Rattle.std.specs.Prelude.{option_map}
use Rattle.lq_terms.specs.Terms.{tree_of, trees_by}
use Rattle.lq_terms.proofs.Growth.{Grows-trans}
use Rattle.lq_solving.specs.Unification.{place_of}
use Rattle.lq_unify.specs.Solutions.{solution, names_of}
use Rattle.lq_unify.proofs.InvertLaws.{place_is}
use Rattle.lq_unify.proofs.inverting.inverted.Goals as goal

pub returns-clause-is : goal.returns-clause-is
returns-clause-is c =
    along (λ z. IfOk c.replaced.result (λ o. option_map (tree_of c.replaced.new.bank) o ≡ z))
    (place_is (place_of (names_of c.args.bank.now c.args.context.now) (trees_by (tree_of c.args.bank.now) c.args.entries.now)) c.places_for.new.bank c.in_ok-places.places.entries (Some c.args.variable) (tree_of c.places_for.new.bank c.args.term)
    (λ x. c.in_ok-places.ensures.are x)
    ∙ ap (solution (Some c.args.variable) (place_of (names_of c.args.bank.now c.args.context.now) (trees_by (tree_of c.args.bank.now) c.args.entries.now))) (c.in_ok-places.ensures.grows.tree c.args.term c.requires.term))
    c.replaced.ensures.is

pub returns-clause-grows : goal.returns-clause-grows
returns-clause-grows c = Grows-trans c.args.bank.now c.places_for.new.bank c.replaced.new.bank c.in_ok-places.ensures.grows c.replaced.ensures.grows
