use Rattle.std.proofs.Common.{◌≡◌, ◌∙◌, refl, sym, ap, ap₂, Ok, Err, false}
use Rattle.std.proofs.Common.{subst as along}
use Rattle.lq_trees.specs.Tree.Tree.{Let}
use Rattle.lq_trees.specs.Fresh.{is_listed}
use Rattle.lq_terms.specs.Terms.{text_of, tree_of}
use Rattle.lq_terms.proofs.Growth.{Grows-trans}
use Rattle.lq_solving.specs.Stores.{names_in, count}
use Rattle.lq_evars.specs.Places.{store_of}
use Rattle.lq_evars.proofs.Growing.{store_of-grown}
use Rattle.lq_prims.specs.Scenes.{context_at, scene_by}
use Rattle.lq_prims.proofs.SceneLaws.{goal_grown}
use Rattle.lq_prims.proofs.LaterLaws.{unlisted_later, stands_later, under_later, value_goal_before}
use Rattle.lq_prims.proofs.IntroLaws.{value_done, value_refused}
use Rattle.lq_prims.proofs.WorkLaws.{handed_on}
use Rattle.lq_prims.proofs.entering.under_definition.Goals as goal

pub entered-requires-clause-place : goal.entered-requires-clause-place
entered-requires-clause-place g c =
    goal_grown c.args.work.now.bank.now c.make.new.self (Grows-trans c.args.work.now.bank.now c.next_inside.new.bank c.make.new.self c.next_inside.ensures.grows c.make.ensures.grows) c.args.store.now c.args.goal c.requires.place

pub entered-requires-clause-new : goal.entered-requires-clause-new
entered-requires-clause-new g c =
    let bank = c.args.work.now.bank.now in
    let grows = Grows-trans bank c.next_inside.new.bank c.make.new.self c.next_inside.ensures.grows c.make.ensures.grows in
    along (λ z. is_listed (names_in (context_at (store_of c.make.new.self c.args.store.now) c.args.goal)) z ≡ false) (sym (grows.text c.args.name c.requires.name))
    (unlisted_later bank c.make.new.self grows c.args.store.now c.args.goal c.requires.place (text_of bank c.args.name) c.requires.new)

pub entered-requires-clause-body : goal.entered-requires-clause-body
entered-requires-clause-body g c =
    stands_later c.args.work.now.bank.now c.make.new.self (Grows-trans c.args.work.now.bank.now c.next_inside.new.bank c.make.new.self c.next_inside.ensures.grows c.make.ensures.grows) c.args.store.now c.args.goal c.requires.place
    c.args.value c.requires.value c.requires.value_stands

pub entered-requires-clause-kind : goal.entered-requires-clause-kind
entered-requires-clause-kind g c =
    stands_later c.args.work.now.bank.now c.make.new.self (Grows-trans c.args.work.now.bank.now c.next_inside.new.bank c.make.new.self c.next_inside.ensures.grows c.make.ensures.grows) c.args.store.now c.args.goal c.requires.place
    c.args.kind c.requires.kind c.requires.kind_stands

pub entered-requires-clause-rest_stands : goal.entered-requires-clause-rest_stands
entered-requires-clause-rest_stands g c =
    under_later c.args.work.now.bank.now c.make.new.self (Grows-trans c.args.work.now.bank.now c.next_inside.new.bank c.make.new.self c.next_inside.ensures.grows c.make.ensures.grows) c.args.store.now c.args.goal c.requires.place
    c.args.rest c.requires.rest c.requires.rest_stands

pub returns-in_err-made-clause-answer : goal.returns-in_err-made-clause-answer
returns-in_err-made-clause-answer g c E T vs =
    let bank = c.args.work.now.bank.now in
    let s = store_of bank c.args.store.now in
    let h = context_at s c.args.goal in
    let b = c.args.work.now.ticks.now.left in
    let left = c.entered.new.work.ticks.now.left in
    let new = c.entered.new.work.bank.now in
    let grows = Grows-trans bank c.next_inside.new.bank c.make.new.self c.next_inside.ensures.grows c.make.ensures.grows in
    handed_on new _ c.from_residual-in_err-made.result c.in_err-made.field-0.0 _ b left c.from_residual-in_err-made.ensures.1
    (value_refused E s c.args.goal h T vs (text_of bank c.args.name) (tree_of bank c.args.value) (tree_of bank c.args.kind) (tree_of bank c.args.rest) b left new c.in_err-made.field-0.0
    (value_goal_before bank c.make.new.self grows c.args.store.now c.args.goal c.requires.place new (λ k. (store_of new c.entered.new.store, k)) (Err c.in_err-made.field-0.0) (λ n. scene_by E s c.args.goal h T vs n) b left
    c.args.name c.args.value c.args.kind c.args.rest c.requires.name c.requires.value c.requires.kind c.requires.rest (c.in_err-made.ensures.answer (λ n. scene_by E s c.args.goal h T vs n) (λ n. refl))))

pub returns-clause-answer : goal.returns-clause-answer
returns-clause-answer g c E T vs =
    let bank = c.args.work.now.bank.now in
    let s = store_of bank c.args.store.now in
    let h = context_at s c.args.goal in
    let b = c.args.work.now.ticks.now.left in
    let left = c.entered.new.work.ticks.now.left in
    let new = c.entered.new.work.bank.now in
    let grows = Grows-trans bank c.next_inside.new.bank c.make.new.self c.next_inside.ensures.grows c.make.ensures.grows in
    value_done E s c.args.goal h T vs (text_of bank c.args.name) (tree_of bank c.args.value) (tree_of bank c.args.kind) (tree_of bank c.args.rest) b left (store_of new c.entered.new.store) c.in_ok-made.made (tree_of new c.in_ok-body.body) c.requires.new
    (c.in_ok-made.ensures.number ∙ ap count (store_of-grown bank c.make.new.self grows c.args.store.now c.requires.place.store))
    (c.in_ok-made.ensures.grows.tree c.in_ok-body.body c.in_ok-body.ensures.made.has ∙ c.in_ok-body.ensures.made.is
    ∙ ap₂ (λ y v. Let y v (tree_of c.next_inside.new.bank c.args.kind) (tree_of c.next_inside.new.bank c.in_ok-inside.inside)) (c.next_inside.ensures.grows.text c.args.name c.requires.name) (c.next_inside.ensures.grows.tree c.args.value c.requires.value)
    ∙ ap₂ (λ A z. Let (text_of bank c.args.name) (tree_of bank c.args.value) A z) (c.next_inside.ensures.grows.tree c.args.kind c.requires.kind) c.in_ok-inside.ensures.inside.is)
    (value_goal_before bank c.make.new.self grows c.args.store.now c.args.goal c.requires.place new (λ k. (store_of new c.entered.new.store, k)) (Ok c.in_ok-made.made) (λ n. scene_by E s c.args.goal h T vs n) b left
    c.args.name c.args.value c.args.kind c.args.rest c.requires.name c.requires.value c.requires.kind c.requires.rest (c.in_ok-made.ensures.answer (λ n. scene_by E s c.args.goal h T vs n) (λ n. refl)))
