use Rattle.std.proofs.Common.{◌∙◌, refl, sym, ap, ◌||◌}
use Rattle.std.specs.Prelude.{option_map}
use Rattle.lq_terms.specs.Terms.{text_of, tree_of}
use Rattle.lq_evars.specs.Places.{store_of}
use Rattle.lq_unify.specs.Solutions.{places_of}
use Rattle.lq_unify.specs.Holding.{tells}
use Rattle.lq_unify.proofs.PlaceLaws.{found_place, found_has}
use Rattle.lq_unify.proofs.HoldLaws.{given_marked, itself_marked}
use Rattle.lq_unify.proofs.holding.add_standing.Goals as goal

pub add_part-requires-clause-has : goal.add_part-requires-clause-has
add_part-requires-clause-has c =
    found_has c.args.bank.now (λ x y h k e. c.names_apart.ensures x y h k e) c.args.name c.requires.name _ (λ y. refl) c.args.given.now.entries c.in-Some.entry c.requires.given
    (sym c.get.ensures.value ∙ sym c.copied.ensures ∙ c.in-Some.is)

pub add_part-requires-clause-known : goal.add_part-requires-clause-known
add_part-requires-clause-known c =
    c.requires.known (text_of c.args.bank.now c.args.name) (tree_of c.args.bank.now c.in-Some.entry)
    (sym (ap (option_map (tree_of c.args.bank.now)) (sym c.in-Some.is ∙ c.copied.ensures ∙ c.get.ensures.value)
    ∙ found_place c.args.bank.now (λ x y h k e. c.names_apart.ensures x y h k e) c.args.name c.requires.name _ (λ y. refl) c.args.given.now.entries c.requires.given))

pub returns-in_ok-add_part-in-Some-clause-told : goal.returns-in_ok-add_part-in-Some-clause-told
returns-in_ok-add_part-in-Some-clause-told c = λ m.
    c.in_ok-add_part-in-Some.ensures.told m
    ∙ ap (λ b. tells c.args.bank.now m c.args.all.now || b)
    (given_marked c.args.barred m (store_of c.args.bank.now c.args.store.now) (places_of c.args.bank.now c.args.given.now.entries) (text_of c.args.bank.now c.args.name) (tree_of c.args.bank.now c.in-Some.entry)
    (ap (option_map (tree_of c.args.bank.now)) (sym c.in-Some.is ∙ c.copied.ensures ∙ c.get.ensures.value)
    ∙ found_place c.args.bank.now (λ x y h k e. c.names_apart.ensures x y h k e) c.args.name c.requires.name _ (λ y. refl) c.args.given.now.entries c.requires.given))

pub returns-in_ok-add_name-in-None-clause-told : goal.returns-in_ok-add_name-in-None-clause-told
returns-in_ok-add_name-in-None-clause-told c = λ m.
    c.in_ok-add_name-in-None.ensures.told m
    ∙ ap (λ b. tells c.args.bank.now m c.args.all.now || b)
    (itself_marked c.args.barred m (store_of c.args.bank.now c.args.store.now) (places_of c.args.bank.now c.args.given.now.entries) (text_of c.args.bank.now c.args.name)
    (ap (option_map (tree_of c.args.bank.now)) (sym c.in-None.is ∙ c.copied.ensures ∙ c.get.ensures.value)
    ∙ found_place c.args.bank.now (λ x y h k e. c.names_apart.ensures x y h k e) c.args.name c.requires.name _ (λ y. refl) c.args.given.now.entries c.requires.given))
