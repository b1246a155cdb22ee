use Rattle.std.proofs.Common.{refl, sym}
use Rattle.std.specs.Prelude.{option_map}
use Rattle.std.proofs.Common.{subst as along}
use Rattle.lq_terms.specs.Terms.{text_of, tree_of}
use Rattle.lq_evars.specs.Places.{store_of}
use Rattle.lq_tactics.specs.Primitives.{intro_on}
use Rattle.lq_prims.specs.Binders.{binder_tree}
use Rattle.lq_prims.specs.Reaching.{reached_done}
use Rattle.lq_prims.specs.Scenes.{context_at, scene_by}
use Rattle.lq_prims.specs.Working.{Refuses, Does}
use Rattle.lq_prims.proofs.SceneLaws.{goal_grown}
use Rattle.lq_prims.proofs.LaterLaws.{unlisted_later, stands_later, under_later, product_before, value_before, product_has, value_has}
use Rattle.lq_prims.proofs.IntroLaws.{product_named, product_unnamed, value_named, value_unnamed}
use Rattle.lq_prims.proofs.WorkLaws.{handed_on}
use Rattle.lq_prims.proofs.introducing.introduced.Goals as goal

pub returns-in_err-name-in-Product-clause-answer : goal.returns-in_err-name-in-Product-clause-answer
returns-in_err-name-in-Product-clause-answer g c E T vs =
    let bank = c.args.work.now.bank.now in
    let s = store_of bank c.args.store.now in
    let h = context_at s c.args.goal in
    let w = option_map (text_of bank) c.args.written in
    let b = c.args.work.now.ticks.now.left in
    let new = c.named.new.bank in
    handed_on new _ c.from_residual.result c.in_err-name-in-Product.field-0.0 _ b b c.from_residual.ensures.1
    (along (λ z. Refuses new c.in_err-name-in-Product.field-0.0 (λ n. intro_on (scene_by E s c.args.goal h T vs n) w (binder_tree bank z)) b b) (sym c.in-Product.is)
    (product_unnamed E s c.args.goal h T vs w (text_of bank c.in-Product.base) (tree_of bank c.in-Product.domain) (tree_of bank c.in-Product.rest) new c.in_err-name-in-Product.field-0.0 b
    (c.in_err-name-in-Product.ensures.answer (scene_by E s c.args.goal h T vs 0) refl b)))

pub under_product-requires-clause-place : goal.under_product-requires-clause-place
under_product-requires-clause-place g c = goal_grown c.args.work.now.bank.now c.named.new.bank c.named.ensures.grows c.args.store.now c.args.goal c.requires.place

pub under_product-requires-clause-new : goal.under_product-requires-clause-new
under_product-requires-clause-new g c =
    unlisted_later c.args.work.now.bank.now c.named.new.bank c.named.ensures.grows c.args.store.now c.args.goal c.requires.place (text_of c.named.new.bank c.in_ok-name-in-Product.name) c.in_ok-name-in-Product.ensures.new

pub under_product-requires-clause-domain_stands : goal.under_product-requires-clause-domain_stands
under_product-requires-clause-domain_stands g c =
    let bank = c.args.work.now.bank.now in
    let s = store_of bank c.args.store.now in
    let p = product_has bank s c.requires.place.kept (context_at s c.args.goal) c.args.binder c.in-Product.base c.in-Product.domain c.in-Product.rest c.in-Product.is c.requires.binder c.requires.stands in
    stands_later bank c.named.new.bank c.named.ensures.grows c.args.store.now c.args.goal c.requires.place c.in-Product.domain p.domain p.domain_stands

pub under_product-requires-clause-rest_stands : goal.under_product-requires-clause-rest_stands
under_product-requires-clause-rest_stands g c =
    let bank = c.args.work.now.bank.now in
    let s = store_of bank c.args.store.now in
    let p = product_has bank s c.requires.place.kept (context_at s c.args.goal) c.args.binder c.in-Product.base c.in-Product.domain c.in-Product.rest c.in-Product.is c.requires.binder c.requires.stands in
    under_later bank c.named.new.bank c.named.ensures.grows c.args.store.now c.args.goal c.requires.place c.in-Product.rest p.rest p.rest_stands

pub returns-in_err-name-in-Definition-clause-answer : goal.returns-in_err-name-in-Definition-clause-answer
returns-in_err-name-in-Definition-clause-answer g c E T vs =
    let bank = c.args.work.now.bank.now in
    let s = store_of bank c.args.store.now in
    let h = context_at s c.args.goal in
    let w = option_map (text_of bank) c.args.written in
    let b = c.args.work.now.ticks.now.left in
    let new = c.named-in-Definition.new.bank in
    handed_on new _ c.from_residual-in_err-name-in-Definition.result c.in_err-name-in-Definition.field-0.0 _ b b c.from_residual-in_err-name-in-Definition.ensures.1
    (along (λ z. Refuses new c.in_err-name-in-Definition.field-0.0 (λ n. intro_on (scene_by E s c.args.goal h T vs n) w (binder_tree bank z)) b b) (sym c.in-Definition.is)
    (value_unnamed E s c.args.goal h T vs w (text_of bank c.in-Definition.base) (tree_of bank c.in-Definition.value) (tree_of bank c.in-Definition.kind) (tree_of bank c.in-Definition.rest) new c.in_err-name-in-Definition.field-0.0 b
    (c.in_err-name-in-Definition.ensures.answer (scene_by E s c.args.goal h T vs 0) refl b)))

pub under_definition-requires-clause-place : goal.under_definition-requires-clause-place
under_definition-requires-clause-place g c = goal_grown c.args.work.now.bank.now c.named-in-Definition.new.bank c.named-in-Definition.ensures.grows c.args.store.now c.args.goal c.requires.place

pub under_definition-requires-clause-new : goal.under_definition-requires-clause-new
under_definition-requires-clause-new g c =
    unlisted_later c.args.work.now.bank.now c.named-in-Definition.new.bank c.named-in-Definition.ensures.grows c.args.store.now c.args.goal c.requires.place (text_of c.named-in-Definition.new.bank c.in_ok-name-in-Definition.name)
    c.in_ok-name-in-Definition.ensures.new

pub under_definition-requires-clause-value_stands : goal.under_definition-requires-clause-value_stands
under_definition-requires-clause-value_stands g c =
    let bank = c.args.work.now.bank.now in
    let s = store_of bank c.args.store.now in
    let p = value_has bank s c.requires.place.kept (context_at s c.args.goal) c.args.binder c.in-Definition.base c.in-Definition.value c.in-Definition.kind c.in-Definition.rest c.in-Definition.is c.requires.binder c.requires.stands in
    stands_later bank c.named-in-Definition.new.bank c.named-in-Definition.ensures.grows c.args.store.now c.args.goal c.requires.place c.in-Definition.value p.value p.value_stands

pub under_definition-requires-clause-kind_stands : goal.under_definition-requires-clause-kind_stands
under_definition-requires-clause-kind_stands g c =
    let bank = c.args.work.now.bank.now in
    let s = store_of bank c.args.store.now in
    let p = value_has bank s c.requires.place.kept (context_at s c.args.goal) c.args.binder c.in-Definition.base c.in-Definition.value c.in-Definition.kind c.in-Definition.rest c.in-Definition.is c.requires.binder c.requires.stands in
    stands_later bank c.named-in-Definition.new.bank c.named-in-Definition.ensures.grows c.args.store.now c.args.goal c.requires.place c.in-Definition.kind p.kind p.kind_stands

pub under_definition-requires-clause-rest_stands : goal.under_definition-requires-clause-rest_stands
under_definition-requires-clause-rest_stands g c =
    let bank = c.args.work.now.bank.now in
    let s = store_of bank c.args.store.now in
    let p = value_has bank s c.requires.place.kept (context_at s c.args.goal) c.args.binder c.in-Definition.base c.in-Definition.value c.in-Definition.kind c.in-Definition.rest c.in-Definition.is c.requires.binder c.requires.stands in
    under_later bank c.named-in-Definition.new.bank c.named-in-Definition.ensures.grows c.args.store.now c.args.goal c.requires.place c.in-Definition.rest p.rest p.rest_stands

pub returns-in_ok-name-in-Product-clause-answer : goal.returns-in_ok-name-in-Product-clause-answer
returns-in_ok-name-in-Product-clause-answer g c E T vs =
    let bank = c.args.work.now.bank.now in
    let s = store_of bank c.args.store.now in
    let h = context_at s c.args.goal in
    let w = option_map (text_of bank) c.args.written in
    let b = c.args.work.now.ticks.now.left in
    let left = c.under_product.new.work.ticks.now.left in
    let mid = c.named.new.bank in
    let new = c.under_product.new.work.bank.now in
    let tell = reached_done new c.under_product.new.store in
    let p = product_has bank s c.requires.place.kept h c.args.binder c.in-Product.base c.in-Product.domain c.in-Product.rest c.in-Product.is c.requires.binder c.requires.stands in
    along (λ z. Does new tell c.under_product.result (λ n. intro_on (scene_by E s c.args.goal h T vs n) w (binder_tree bank z)) b left) (sym c.in-Product.is)
    (product_named E s c.args.goal h T vs w (text_of bank c.in-Product.base) (tree_of bank c.in-Product.domain) (tree_of bank c.in-Product.rest) new tell c.under_product.result (text_of mid c.in_ok-name-in-Product.name) b left
    (λ n. c.in_ok-name-in-Product.ensures.answer (scene_by E s c.args.goal h T vs n) refl)
    (product_before bank mid c.named.ensures.grows c.args.store.now c.args.goal c.requires.place new tell c.under_product.result E T vs b left (text_of mid c.in_ok-name-in-Product.name) c.in-Product.domain c.in-Product.rest p.domain p.rest
    (c.under_product.ensures.answer E T vs)))

pub returns-in_ok-name-in-Definition-clause-answer : goal.returns-in_ok-name-in-Definition-clause-answer
returns-in_ok-name-in-Definition-clause-answer g c E T vs =
    let bank = c.args.work.now.bank.now in
    let s = store_of bank c.args.store.now in
    let h = context_at s c.args.goal in
    let w = option_map (text_of bank) c.args.written in
    let b = c.args.work.now.ticks.now.left in
    let left = c.under_definition.new.work.ticks.now.left in
    let mid = c.named-in-Definition.new.bank in
    let new = c.under_definition.new.work.bank.now in
    let tell = reached_done new c.under_definition.new.store in
    let p = value_has bank s c.requires.place.kept h c.args.binder c.in-Definition.base c.in-Definition.value c.in-Definition.kind c.in-Definition.rest c.in-Definition.is c.requires.binder c.requires.stands in
    along (λ z. Does new tell c.under_definition.result (λ n. intro_on (scene_by E s c.args.goal h T vs n) w (binder_tree bank z)) b left) (sym c.in-Definition.is)
    (value_named E s c.args.goal h T vs w (text_of bank c.in-Definition.base) (tree_of bank c.in-Definition.value) (tree_of bank c.in-Definition.kind) (tree_of bank c.in-Definition.rest) new tell c.under_definition.result
    (text_of mid c.in_ok-name-in-Definition.name) b left
    (λ n. c.in_ok-name-in-Definition.ensures.answer (scene_by E s c.args.goal h T vs n) refl)
    (value_before bank mid c.named-in-Definition.ensures.grows c.args.store.now c.args.goal c.requires.place new tell c.under_definition.result E T vs b left (text_of mid c.in_ok-name-in-Definition.name)
    c.in-Definition.value c.in-Definition.kind c.in-Definition.rest p.value p.kind p.rest (c.under_definition.ensures.answer E T vs)))
