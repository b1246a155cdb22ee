use Rattle.std.proofs.Common.{◌∙◌, refl, sym, suc, true, [], arith}
use Rattle.std.proofs.Common.{subst as along}
use Rattle.lq_ast.specs.Plain.{plain}
use Rattle.lq_terms.specs.Contexts.{context_of}
use Rattle.lq_terms.specs.Terms.{tree_of}
use Rattle.lq_env.specs.Environments.{env_of}
use Rattle.lq_env.proofs.Grown.{env_of-grown}
use Rattle.lq_solving.specs.Kept.{StandsIn}
use Rattle.lq_evars.specs.Places.{store_of}
use Rattle.lq_elab.specs.States.{givens_of}
use Rattle.lq_prims.specs.Building.{built_done}
use Rattle.lq_prims.specs.Existing.{IsFunction}
use Rattle.lq_prims.specs.Inductives.{found_by}
use Rattle.lq_prims.specs.Scenes.{context_at, scene_in}
use Rattle.lq_prims.proofs.SceneLaws.{goal_context, kind_stands, placed_scene, declared_grown}
use Rattle.lq_prims.proofs.MakingLaws.{goal_in, term_later, same_context}
use Rattle.lq_prims.proofs.ApplyLaws.{found_as}
use Rattle.lq_prims.proofs.ExistLaws.{not_argued, argued_then, found_reaches}
use Rattle.lq_prims.proofs.existing.exists_of.Goals as goal

pub exists_found-requires-clause-place : goal.exists_found-requires-clause-place
exists_found-requires-clause-place g c =
    let bank = c.args.work.now.bank.now in
    goal_in bank c.args.store.now c.args.goal c.requires.placed.place c.in-Ok.context (goal_context bank c.args.store.now c.args.goal c.requires.placed.place c.in-Ok.context (λ v e. c.in-Ok.ensures ∙ c.context.ensures.place v e))

pub exists_found-requires-clause-same : goal.exists_found-requires-clause-same
exists_found-requires-clause-same g c =
    (goal_context c.args.work.now.bank.now c.args.store.now c.args.goal c.requires.placed.place c.in-Ok.context (λ v e. c.in-Ok.ensures ∙ c.context.ensures.place v e)).is

pub exists_found-requires-clause-function : goal.exists_found-requires-clause-function
exists_found-requires-clause-function g c =
    along (λ z. IsFunction c.args.work.now.bank.now c.args.store.now z c.args.function)
    (sym (goal_context c.args.work.now.bank.now c.args.store.now c.args.goal c.requires.placed.place c.in-Ok.context (λ v e. c.in-Ok.ensures ∙ c.context.ensures.place v e)).is) c.requires.function

pub apply_found-requires-clause-declared : goal.apply_found-requires-clause-declared
apply_found-requires-clause-declared g c = declared_grown c.args.work.now.bank.now c.exists_found.new.work.bank.now c.in-Ok-exists_found.ensures.grows c.args.env.now c.requires.placed.declared

pub apply_found-requires-clause-kind : goal.apply_found-requires-clause-kind
apply_found-requires-clause-kind g c =
    let bank = c.args.work.now.bank.now in
    let mid = c.exists_found.new.work.bank.now in
    let p = c.args.store.now in
    let hs = c.in-Ok.context in
    let gc = goal_context bank p c.args.goal c.requires.placed.place hs (λ v e. c.in-Ok.ensures ∙ c.context.ensures.place v e) in
    let at = goal_in bank p c.args.goal c.requires.placed.place hs gc in
    term_later bank mid c.in-Ok-exists_found.ensures.grows p hs at c.exists_found.new.store c.in-Ok-exists_found.ensures.place.store c.in-Ok-exists_found.ensures.grown c.args.kind
    (record { has = c.requires.placed.kind; stands = along (λ z. StandsIn (store_of bank p) z (tree_of bank c.args.kind)) (sym gc.is) (kind_stands bank c.args.env.now p c.args.goal c.args.kind c.requires.placed) })

pub returns-in-Ok-exists_found-clause-answer : goal.returns-in-Ok-exists_found-clause-answer
returns-in-Ok-exists_found-clause-answer g c =
    let bank = c.args.work.now.bank.now in
    let mid = c.exists_found.new.work.bank.now in
    let p = c.args.store.now in
    let hs = c.in-Ok.context in
    let gc = goal_context bank p c.args.goal c.requires.placed.place hs (λ v e. c.in-Ok.ensures ∙ c.context.ensures.place v e) in
    let at = goal_in bank p c.args.goal c.requires.placed.place hs gc in
    let grows = c.in-Ok-exists_found.ensures.grows in
    let new = c.apply_found.new.work.bank.now in
    let T = tree_of bank c.args.kind in
    let l = c.exists_found.new.work.ticks.now.left in
    let left = c.apply_found.new.work.ticks.now.left in
    let vs = givens_of bank c.args.values.now in
    let S = store_of bank p in
    let G = context_at S c.args.goal in
    let E = env_of bank c.args.env.now in
    let h = found_by mid (store_of mid c.exists_found.new.store) c.in-Ok-exists_found.found in
    let tell = built_done new c.apply_found.new.store in
    argued_then E S c.args.goal G T vs (plain c.args.term.now) (found_by bank S c.args.function) c.args.work.now.ticks.now.left l h (c.in-Ok-exists_found.ensures.answer T) new tell c.apply_found.result left
    (found_as (env_of mid c.args.env.now) E S c.args.goal (context_of mid hs) G (tree_of mid c.args.kind) T vs true h new tell c.apply_found.result l left (env_of-grown bank mid grows c.args.env.now c.requires.placed.declared.env)
    (same_context bank mid grows p hs at ∙ gc.is) (grows.tree c.args.kind c.requires.placed.kind) (c.apply_found.ensures.answer S c.args.goal vs (sym (c.count-before.ensures.told bank))))

pub returns-in-Ok-exists_found-clause-reached : goal.returns-in-Ok-exists_found-clause-reached
returns-in-Ok-exists_found-clause-reached g c =
    let bank = c.args.work.now.bank.now in
    let mid = c.exists_found.new.work.bank.now in
    let p = c.args.store.now in
    let hs = c.in-Ok.context in
    let gc = goal_context bank p c.args.goal c.requires.placed.place hs (λ v e. c.in-Ok.ensures ∙ c.context.ensures.place v e) in
    let at = goal_in bank p c.args.goal c.requires.placed.place hs gc in
    let grows = c.in-Ok-exists_found.ensures.grows in
    let new = c.apply_found.new.work.bank.now in
    let T = tree_of bank c.args.kind in
    let l = c.exists_found.new.work.ticks.now.left in
    let left = c.apply_found.new.work.ticks.now.left in
    let vs = givens_of bank c.args.values.now in
    let S = store_of bank p in
    let G = context_at S c.args.goal in
    let E = env_of bank c.args.env.now in
    let S1 = store_of mid c.exists_found.new.store in
    let f = c.in-Ok-exists_found.found in
    let h = found_by mid S1 f in
    let tell = built_done new c.apply_found.new.store in
    let is = same_context bank mid grows p hs at ∙ gc.is in
    found_reaches E S c.args.goal G T vs new tell c.apply_found.result l left h (scene_in bank c.args.env.now p c.args.goal c.args.kind [] 0)
    (found_as (env_of mid c.args.env.now) E S c.args.goal (context_of mid hs) G (tree_of mid c.args.kind) T vs true h new tell c.apply_found.result l left (env_of-grown bank mid grows c.args.env.now c.requires.placed.declared.env)
    is (grows.tree c.args.kind c.requires.placed.kind) (c.apply_found.ensures.answer S c.args.goal vs (sym (c.count-before.ensures.told bank))))
    (placed_scene bank c.args.env.now p c.args.goal c.args.kind c.requires.placed vs (suc l) c.requires.values_stand)
    (c.in-Ok-exists_found.ensures.grown, along (λ z. StandsIn S1 z (tree_of mid f.term)) is c.in-Ok-exists_found.ensures.term.stands, along (λ z. StandsIn S1 z (tree_of mid f.kind)) is c.in-Ok-exists_found.ensures.kind.stands)
    (c.has_room.ensures bank c.requires.placed.place) (omega (arith, c.exists_found.new.work.ticks.now.bounded)) refl refl

pub returns-clause-answer : goal.returns-clause-answer
returns-clause-answer g c =
    let bank = c.args.work.now.bank.now in
    let S = store_of bank c.args.store.now in
    let T = tree_of bank c.args.kind in
    not_argued (env_of bank c.args.env.now) S c.args.goal (context_at S c.args.goal) T (givens_of bank c.args.values.now) (plain c.args.term.now) (found_by bank S c.args.function)
    c.exists_found.new.work.bank.now c.in-Err-exists_found.fault c.args.work.now.ticks.now.left c.exists_found.new.work.ticks.now.left (c.in-Err-exists_found.ensures.answer T)
