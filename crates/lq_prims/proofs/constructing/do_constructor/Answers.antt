use Rattle.std.proofs.Common.{◌∙◌, refl, sym, suc, [], true, arith}
use Rattle.std.proofs.Common.{subst as along}
use Rattle.lq_trees.specs.Ticks.{done, ComesTo}
use Rattle.lq_terms.specs.Contexts.{context_of}
use Rattle.lq_terms.specs.Terms.{tree_of}
use Rattle.lq_env.specs.Environments.{env_of}
use Rattle.lq_env.proofs.Grown.{env_of-grown}
use Rattle.lq_solving.specs.Kept.{StandsIn}
use Rattle.lq_solving.specs.Elaboration.{found}
use Rattle.lq_evars.specs.Places.{store_of}
use Rattle.lq_prims.specs.Building.{built_done}
use Rattle.lq_prims.specs.Constructing.{constructor_work}
use Rattle.lq_prims.specs.Scenes.{context_at, scene_in}
use Rattle.lq_prims.proofs.SceneLaws.{goal_context, kind_stands, plain_scene, declared_grown}
use Rattle.lq_prims.proofs.MakingLaws.{goal_in, in_grown, term_grown, same_context, same_store}
use Rattle.lq_prims.proofs.ApplyLaws.{found_as}
use Rattle.lq_prims.proofs.ConstructLaws.{row_refused, row_does, row_reaches, stands_in}
use Rattle.lq_prims.proofs.constructing.do_constructor.Goals as goal

pub apply_found-requires-clause-declared : goal.apply_found-requires-clause-declared
apply_found-requires-clause-declared g c = declared_grown c.args.work.now.bank.now c.constructor_of.new.work.bank.now c.in-Ok-constructor_of.ensures.grows c.args.env.now c.requires.placed.declared

pub apply_found-requires-clause-place : goal.apply_found-requires-clause-place
apply_found-requires-clause-place g c =
    let bank = c.args.work.now.bank.now in
    let mid = c.constructor_of.new.work.bank.now in
    let p = c.args.store.now in
    let hs = c.in-Ok.context in
    let gc = goal_context bank p c.args.goal c.requires.placed.place hs (λ v e. c.in-Ok.ensures ∙ c.context.ensures.place v e) in
    let at = goal_in bank p c.args.goal c.requires.placed.place hs gc in
    let grows = c.in-Ok-constructor_of.ensures.grows in
    in_grown bank mid grows p hs at

pub apply_found-requires-clause-kind : goal.apply_found-requires-clause-kind
apply_found-requires-clause-kind g c =
    let bank = c.args.work.now.bank.now in
    let mid = c.constructor_of.new.work.bank.now in
    let p = c.args.store.now in
    let hs = c.in-Ok.context in
    let gc = goal_context bank p c.args.goal c.requires.placed.place hs (λ v e. c.in-Ok.ensures ∙ c.context.ensures.place v e) in
    let at = goal_in bank p c.args.goal c.requires.placed.place hs gc in
    let grows = c.in-Ok-constructor_of.ensures.grows in
    term_grown bank mid grows p hs at c.args.kind
    (record { has = c.requires.placed.kind; stands = along (λ z. StandsIn (store_of bank p) z (tree_of bank c.args.kind)) (sym gc.is) (kind_stands bank c.args.env.now p c.args.goal c.args.kind c.requires.placed) })

pub apply_found-requires-clause-term : goal.apply_found-requires-clause-term
apply_found-requires-clause-term g c =
    let bank = c.args.work.now.bank.now in
    let mid = c.constructor_of.new.work.bank.now in
    let p = c.args.store.now in
    let hs = c.in-Ok.context in
    let gc = goal_context bank p c.args.goal c.requires.placed.place hs (λ v e. c.in-Ok.ensures ∙ c.context.ensures.place v e) in
    let at = goal_in bank p c.args.goal c.requires.placed.place hs gc in
    let grows = c.in-Ok-constructor_of.ensures.grows in
    stands_in bank mid grows p hs at (context_at (store_of bank p) c.args.goal) gc.is c.in-Ok-constructor_of.found.term c.in-Ok-constructor_of.ensures.has.0 c.in-Ok-constructor_of.ensures.stands.0

pub apply_found-requires-clause-term_kind : goal.apply_found-requires-clause-term_kind
apply_found-requires-clause-term_kind g c =
    let bank = c.args.work.now.bank.now in
    let mid = c.constructor_of.new.work.bank.now in
    let p = c.args.store.now in
    let hs = c.in-Ok.context in
    let gc = goal_context bank p c.args.goal c.requires.placed.place hs (λ v e. c.in-Ok.ensures ∙ c.context.ensures.place v e) in
    let at = goal_in bank p c.args.goal c.requires.placed.place hs gc in
    let grows = c.in-Ok-constructor_of.ensures.grows in
    stands_in bank mid grows p hs at (context_at (store_of bank p) c.args.goal) gc.is c.in-Ok-constructor_of.found.kind c.in-Ok-constructor_of.ensures.has.1 c.in-Ok-constructor_of.ensures.stands.1

pub returns-in-Ok-constructor_of-clause-answer : goal.returns-in-Ok-constructor_of-clause-answer
returns-in-Ok-constructor_of-clause-answer g c vs =
    let bank = c.args.work.now.bank.now in
    let mid = c.constructor_of.new.work.bank.now in
    let p = c.args.store.now in
    let hs = c.in-Ok.context in
    let gc = goal_context bank p c.args.goal c.requires.placed.place hs (λ v e. c.in-Ok.ensures ∙ c.context.ensures.place v e) in
    let at = goal_in bank p c.args.goal c.requires.placed.place hs gc in
    let grows = c.in-Ok-constructor_of.ensures.grows in
    let new = c.apply_found.new.work.bank.now in
    let S = store_of bank p in
    let G = context_at S c.args.goal in
    let E = env_of bank c.args.env.now in
    let T = tree_of bank c.args.kind in
    let b = c.args.work.now.ticks.now.left in
    let l = c.constructor_of.new.work.ticks.now.left in
    let left = c.apply_found.new.work.ticks.now.left in
    let t = tree_of mid c.in-Ok-constructor_of.found.term in
    let A = tree_of mid c.in-Ok-constructor_of.found.kind in
    let w = c.args.wanted in
    let m = c.args.number in
    let tell = built_done new c.apply_found.new.store in
    row_does E S c.args.goal G T vs w m b l (found (store_of mid p) t A)
    (along (λ z. ComesTo (λ n. constructor_work (scene_in bank c.args.env.now p c.args.goal c.args.kind vs n) w m) b (done (found z t A) l)) (sym (same_store bank mid grows p hs at)) (c.in-Ok-constructor_of.ensures.answer vs)) new tell c.apply_found.result left
    (found_as (env_of mid c.args.env.now) E S c.args.goal (context_of mid hs) G (tree_of mid c.args.kind) T vs true (found (store_of mid p) t A) new tell c.apply_found.result l left (env_of-grown bank mid grows c.args.env.now c.requires.placed.declared.env)
    (same_context bank mid grows p hs at ∙ gc.is) (grows.tree c.args.kind c.requires.placed.kind) (c.apply_found.ensures.answer S c.args.goal vs (sym (c.count-before.ensures.told bank))))

pub returns-in-Ok-constructor_of-clause-reached : goal.returns-in-Ok-constructor_of-clause-reached
returns-in-Ok-constructor_of-clause-reached g c =
    let bank = c.args.work.now.bank.now in
    let mid = c.constructor_of.new.work.bank.now in
    let p = c.args.store.now in
    let hs = c.in-Ok.context in
    let gc = goal_context bank p c.args.goal c.requires.placed.place hs (λ v e. c.in-Ok.ensures ∙ c.context.ensures.place v e) in
    let at = goal_in bank p c.args.goal c.requires.placed.place hs gc in
    let grows = c.in-Ok-constructor_of.ensures.grows in
    let new = c.apply_found.new.work.bank.now in
    let S = store_of bank p in
    let G = context_at S c.args.goal in
    let E = env_of bank c.args.env.now in
    let T = tree_of bank c.args.kind in
    let b = c.args.work.now.ticks.now.left in
    let l = c.constructor_of.new.work.ticks.now.left in
    let left = c.apply_found.new.work.ticks.now.left in
    let t = tree_of mid c.in-Ok-constructor_of.found.term in
    let A = tree_of mid c.in-Ok-constructor_of.found.kind in
    let w = c.args.wanted in
    let m = c.args.number in
    let tell = built_done new c.apply_found.new.store in
    row_reaches E S c.args.goal G T [] w m b new tell c.apply_found.result left (scene_in bank c.args.env.now p c.args.goal c.args.kind [] 0)
    (row_does E S c.args.goal G T [] w m b l (found (store_of mid p) t A)
    (along (λ z. ComesTo (λ n. constructor_work (scene_in bank c.args.env.now p c.args.goal c.args.kind [] n) w m) b (done (found z t A) l)) (sym (same_store bank mid grows p hs at)) (c.in-Ok-constructor_of.ensures.answer [])) new tell c.apply_found.result left
    (found_as (env_of mid c.args.env.now) E S c.args.goal (context_of mid hs) G (tree_of mid c.args.kind) T [] true (found (store_of mid p) t A) new tell c.apply_found.result l left (env_of-grown bank mid grows c.args.env.now c.requires.placed.declared.env)
    (same_context bank mid grows p hs at ∙ gc.is) (grows.tree c.args.kind c.requires.placed.kind) (c.apply_found.ensures.answer S c.args.goal [] (sym (c.count-before.ensures.told bank)))))
    (plain_scene bank c.args.env.now p c.args.goal c.args.kind c.requires.placed (suc b)) (c.has_room.ensures bank c.requires.placed.place) (omega (arith, c.args.work.now.ticks.now.bounded)) refl refl

pub returns-clause-answer : goal.returns-clause-answer
returns-clause-answer g c vs =
    let bank = c.args.work.now.bank.now in
    let S = store_of bank c.args.store.now in
    row_refused (env_of bank c.args.env.now) S c.args.goal (context_at S c.args.goal) (tree_of bank c.args.kind) vs c.args.wanted c.args.number c.args.work.now.ticks.now.left
    c.constructor_of.new.work.bank.now c.in-Err-constructor_of.fault c.constructor_of.new.work.ticks.now.left (c.in-Err-constructor_of.ensures.answer vs)
