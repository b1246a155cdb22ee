use Rattle.std.proofs.Common.{◌∙◌, refl, sym, suc, []}
use Rattle.std.proofs.Common.{subst as along}
use Rattle.lq_terms.specs.Contexts.{context_of}
use Rattle.lq_terms.specs.Terms.{tree_of}
use Rattle.lq_env.specs.Environments.{env_of}
use Rattle.lq_solving.specs.Kept.{StandsIn}
use Rattle.lq_evars.specs.Places.{store_of}
use Rattle.lq_tactics.specs.Rows.{Done}
use Rattle.lq_prims.specs.declared.building.Built.{Built}
use Rattle.lq_prims.specs.Building.{built_done}
use Rattle.lq_prims.specs.Scenes.{context_at, scene_in}
use Rattle.lq_prims.proofs.SceneLaws.{goal_context, kind_stands, plain_scene}
use Rattle.lq_prims.proofs.MakingLaws.{goal_in, in_grown, term_grown, same_context, same_store}
use Rattle.lq_prims.proofs.BuildLaws.{false_refused, false_sort, false_reaches, false_as}
use Rattle.lq_prims.proofs.exfalso.do_exfalso.Goals as goal

pub false_goal-requires-clause-place : goal.false_goal-requires-clause-place
false_goal-requires-clause-place g c =
    let bank = c.args.work.now.bank.now in
    let mid = c.goal_sort.new.work.bank.now in
    let p = c.args.store.now in
    let hs = c.in-Ok.context in
    let gc = goal_context bank p c.args.goal c.requires.placed.place hs (λ v e. c.in-Ok.ensures ∙ c.context.ensures.place v e) in
    let at = goal_in bank p c.args.goal c.requires.placed.place hs gc in
    let grows = c.in-Ok-goal_sort.ensures.grows in
    in_grown bank mid grows p hs at

pub false_goal-requires-clause-kind : goal.false_goal-requires-clause-kind
false_goal-requires-clause-kind g c =
    let bank = c.args.work.now.bank.now in
    let mid = c.goal_sort.new.work.bank.now in
    let p = c.args.store.now in
    let hs = c.in-Ok.context in
    let gc = goal_context bank p c.args.goal c.requires.placed.place hs (λ v e. c.in-Ok.ensures ∙ c.context.ensures.place v e) in
    let at = goal_in bank p c.args.goal c.requires.placed.place hs gc in
    let grows = c.in-Ok-goal_sort.ensures.grows in
    term_grown bank mid grows p hs at c.args.kind
    (record { has = c.requires.placed.kind; stands = along (λ z. StandsIn (store_of bank p) z (tree_of bank c.args.kind)) (sym gc.is) (kind_stands bank c.args.env.now p c.args.goal c.args.kind c.requires.placed) })

pub returns-in-Ok-goal_sort-clause-answer : goal.returns-in-Ok-goal_sort-clause-answer
returns-in-Ok-goal_sort-clause-answer g c vs =
    let bank = c.args.work.now.bank.now in
    let mid = c.goal_sort.new.work.bank.now in
    let p = c.args.store.now in
    let hs = c.in-Ok.context in
    let gc = goal_context bank p c.args.goal c.requires.placed.place hs (λ v e. c.in-Ok.ensures ∙ c.context.ensures.place v e) in
    let at = goal_in bank p c.args.goal c.requires.placed.place hs gc in
    let grows = c.in-Ok-goal_sort.ensures.grows in
    let new = c.false_goal.new.work.bank.now in
    let T = tree_of bank c.args.kind in
    let S = store_of bank p in
    let G = context_at S c.args.goal in
    let E = env_of bank c.args.env.now in
    let b = c.args.work.now.ticks.now.left in
    let l = c.goal_sort.new.work.ticks.now.left in
    let left = c.false_goal.new.work.ticks.now.left in
    let tell : Built → Done = built_done new c.false_goal.new.store in
    false_sort E S c.args.goal G T vs b l c.in-Ok-goal_sort.sort (c.in-Ok-goal_sort.ensures.answer vs) (context_of mid hs) (same_context bank mid grows p hs at ∙ gc.is) new tell c.false_goal.result left
    (false_as (λ n. scene_in bank c.args.env.now p c.args.goal c.args.kind vs n) (store_of mid p) S (context_of mid hs) (tree_of mid c.args.kind) T c.in-Ok-goal_sort.sort (same_store bank mid grows p hs at) (grows.tree c.args.kind c.requires.placed.kind) new tell c.false_goal.result l left
    (c.false_goal.ensures.answer (λ n. scene_in bank c.args.env.now p c.args.goal c.args.kind vs n) (λ n. refl)))

pub returns-in-Ok-goal_sort-clause-reached : goal.returns-in-Ok-goal_sort-clause-reached
returns-in-Ok-goal_sort-clause-reached g c =
    let bank = c.args.work.now.bank.now in
    let mid = c.goal_sort.new.work.bank.now in
    let p = c.args.store.now in
    let hs = c.in-Ok.context in
    let gc = goal_context bank p c.args.goal c.requires.placed.place hs (λ v e. c.in-Ok.ensures ∙ c.context.ensures.place v e) in
    let at = goal_in bank p c.args.goal c.requires.placed.place hs gc in
    let grows = c.in-Ok-goal_sort.ensures.grows in
    let new = c.false_goal.new.work.bank.now in
    let T = tree_of bank c.args.kind in
    let S = store_of bank p in
    let G = context_at S c.args.goal in
    let E = env_of bank c.args.env.now in
    let b = c.args.work.now.ticks.now.left in
    let l = c.goal_sort.new.work.ticks.now.left in
    let left = c.false_goal.new.work.ticks.now.left in
    let tell : Built → Done = built_done new c.false_goal.new.store in
    false_reaches E S c.args.goal G T [] b new tell c.false_goal.result left (scene_in bank c.args.env.now p c.args.goal c.args.kind [] 0)
    (false_sort E S c.args.goal G T [] b l c.in-Ok-goal_sort.sort (c.in-Ok-goal_sort.ensures.answer []) (context_of mid hs) (same_context bank mid grows p hs at ∙ gc.is) new tell c.false_goal.result left
    (false_as (λ n. scene_in bank c.args.env.now p c.args.goal c.args.kind [] n) (store_of mid p) S (context_of mid hs) (tree_of mid c.args.kind) T c.in-Ok-goal_sort.sort (same_store bank mid grows p hs at) (grows.tree c.args.kind c.requires.placed.kind) new tell c.false_goal.result l left
    (c.false_goal.ensures.answer (λ n. scene_in bank c.args.env.now p c.args.goal c.args.kind [] n) (λ n. refl))))
    (plain_scene bank c.args.env.now p c.args.goal c.args.kind c.requires.placed (suc b)) refl refl

pub returns-clause-answer : goal.returns-clause-answer
returns-clause-answer g c vs =
    let bank = c.args.work.now.bank.now in
    let p = c.args.store.now in
    false_refused (env_of bank c.args.env.now) (store_of bank p) c.args.goal (context_at (store_of bank p) c.args.goal) (tree_of bank c.args.kind) vs c.args.work.now.ticks.now.left
    c.goal_sort.new.work.bank.now c.in-Err-goal_sort.fault c.goal_sort.new.work.ticks.now.left (c.in-Err-goal_sort.ensures.answer vs)
