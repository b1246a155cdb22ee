use Rattle.std.proofs.Common.{◌∙◌, rules, sym, ap, ◌||◌, [], ◌≡◌}
use Rattle.std.proofs.Common.{subst as along}
use Rattle.std.specs.List.{AllByRecursion}
use Rattle.lq_terms.specs.Terms.{HasName}
use Rattle.lq_evars.specs.Places.{store_of}
use Rattle.lq_unify.specs.Solutions.{places_of}
use Rattle.lq_unify.specs.Holding.{one_marked, marked_through}
use Rattle.lq_unify.proofs.HeldLaws.{or_nothing}
use Rattle.lq_unify.proofs.holding.of_value.Goals as goal

pub add_each_standing-requires-clause-names : goal.add_each_standing-requires-clause-names
add_each_standing-requires-clause-names c =
    let e : c.new.result.keys ≡ [] = search rules in along (AllByRecursion (HasName c.args.bank.now)) (sym e) tt

pub returns-clause-told : goal.returns-clause-told
returns-clause-told c = λ m.
    let e : c.new.result.keys ≡ [] = search rules in
    c.in_ok-add_each_standing.ensures.told m
    ∙ ap (λ xs. (c.args.body.now.variable || one_marked c.args.bank.now m xs) || one_marked c.args.bank.now (marked_through c.args.barred m (store_of c.args.bank.now c.args.store.now) (places_of c.args.bank.now c.args.given.now.entries)) c.as_slice.result.now) e
    ∙ ap (λ b. b || one_marked c.args.bank.now (marked_through c.args.barred m (store_of c.args.bank.now c.args.store.now) (places_of c.args.bank.now c.args.given.now.entries)) c.as_slice.result.now) (or_nothing c.args.body.now.variable)
    ∙ ap (λ xs. c.args.body.now.variable || one_marked c.args.bank.now (marked_through c.args.barred m (store_of c.args.bank.now c.args.store.now) (places_of c.args.bank.now c.args.given.now.entries)) xs) c.as_slice.ensures.keys
