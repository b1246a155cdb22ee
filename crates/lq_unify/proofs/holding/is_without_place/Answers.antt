use Rattle.std.proofs.Common.{◌∙◌, refl, sym, ap}
use Rattle.std.specs.Prelude.{option_map}
use Rattle.lq_terms.specs.Terms.{text_of, tree_of}
use Rattle.lq_unify.specs.Solutions.{places_of}
use Rattle.lq_unify.proofs.PlaceLaws.{found_place}
use Rattle.lq_unify.proofs.HoldLaws.{has_place, without_place}
use Rattle.lq_unify.proofs.holding.is_without_place.Goals as goal

pub returns-in-Some : goal.returns-in-Some
returns-in-Some c =
    has_place (places_of c.args.bank.now c.args.places.now.entries) (text_of c.args.bank.now c.args.name) (tree_of c.args.bank.now c.in-Some.field-0)
    (ap (option_map (tree_of c.args.bank.now)) (sym c.in-Some.is ∙ c.copied.ensures ∙ c.get.ensures.value)
    ∙ found_place c.args.bank.now (λ x y h k e. c.names_apart.ensures x y h k e) c.args.name c.requires.name _ (λ y. refl) c.args.places.now.entries c.requires.places)

pub returns-in-None : goal.returns-in-None
returns-in-None c =
    without_place (places_of c.args.bank.now c.args.places.now.entries) (text_of c.args.bank.now c.args.name)
    (ap (option_map (tree_of c.args.bank.now)) (sym c.in-None.is ∙ c.copied.ensures ∙ c.get.ensures.value)
    ∙ found_place c.args.bank.now (λ x y h k e. c.names_apart.ensures x y h k e) c.args.name c.requires.name _ (λ y. refl) c.args.places.now.entries c.requires.places)
