use Rattle.std.proofs.Common.{◌∙◌, sym, refl, ap}
use Rattle.std.specs.Prelude.{option_map}
use Rattle.lq_terms.specs.Terms.{text_of, tree_of}
use Rattle.lq_unify.proofs.PlaceLaws.{found_place, found_has, some_given, none_stays, none_ends}
use Rattle.lq_unify.proofs.replacing.placed.Goals as goal

pub returns-in-Some-clause-is : goal.returns-in-Some-clause-is
returns-in-Some-clause-is c =
    some_given c.args.how.stays (text_of c.args.bank.now c.args.name) (tree_of c.args.bank.now c.in-Some.place) _
    (ap (option_map (tree_of c.args.bank.now)) (sym c.in-Some.is ∙ c.copied.ensures ∙ c.get.ensures.value)
    ∙ found_place c.args.bank.now (λ x y h k e. c.names_apart.ensures x y h k e) c.args.name c.requires.name _ (λ y. refl) c.args.places.now.entries c.requires.places)

pub returns-in-Some-clause-has : goal.returns-in-Some-clause-has
returns-in-Some-clause-has c =
    found_has c.args.bank.now (λ x y h k e. c.names_apart.ensures x y h k e) c.args.name c.requires.name _ (λ y. refl) c.args.places.now.entries c.in-Some.place c.requires.places
    (sym c.get.ensures.value ∙ sym c.copied.ensures ∙ c.in-Some.is)

pub returns-then-how-clause-is : goal.returns-then-how-clause-is
returns-then-how-clause-is c =
    none_stays c.args.how.stays (text_of c.args.bank.now c.args.name) (tree_of c.args.bank.now c.args.term) _
    (ap (option_map (tree_of c.args.bank.now)) (sym c.in-None.is ∙ c.copied.ensures ∙ c.get.ensures.value)
    ∙ found_place c.args.bank.now (λ x y h k e. c.names_apart.ensures x y h k e) c.args.name c.requires.name _ (λ y. refl) c.args.places.now.entries c.requires.places)
    c.if-how.true c.requires.term.is

pub returns-else-how-clause-is : goal.returns-else-how-clause-is
returns-else-how-clause-is c =
    none_ends c.args.how.stays (text_of c.args.bank.now c.args.name) _
    (ap (option_map (tree_of c.args.bank.now)) (sym c.in-None.is ∙ c.copied.ensures ∙ c.get.ensures.value)
    ∙ found_place c.args.bank.now (λ x y h k e. c.names_apart.ensures x y h k e) c.args.name c.requires.name _ (λ y. refl) c.args.places.now.entries c.requires.places)
    c.if-how.false
