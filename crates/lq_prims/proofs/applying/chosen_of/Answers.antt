use Rattle.lq_terms.specs.Contexts.{context_of}
use Rattle.lq_terms.specs.Terms.{tree_of}
use Rattle.lq_env.specs.Environments.{env_of}
use Rattle.lq_env.proofs.Grown.{env_of-grown}
use Rattle.lq_solving.specs.Elaboration.{found}
use Rattle.lq_evars.specs.Places.{store_of}
use Rattle.lq_prims.specs.Opening.{choice_of, openings_of}
use Rattle.lq_prims.specs.Scenes.{scene_by}
use Rattle.lq_prims.proofs.SceneLaws.{declared_grown}
use Rattle.lq_prims.proofs.MakingLaws.{same_context}
use Rattle.lq_prims.proofs.ApplyLaws.{not_open, chosen_does, choose_as}
use Rattle.lq_prims.proofs.applying.chosen_of.Goals as goal

pub chosen-requires-clause-declared : goal.chosen-requires-clause-declared
chosen-requires-clause-declared g c = declared_grown c.args.work.now.bank.now c.opened.new.work.bank.now c.in-Ok.ensures.grows c.args.env.now c.requires.declared

pub returns-in-Ok-clause-answer : goal.returns-in-Ok-clause-answer
returns-in-Ok-clause-answer g c s k T t vs =
    let old = c.args.work.now.bank.now in
    let mid = c.opened.new.work.bank.now in
    let new = c.chosen.new.work.bank.now in
    let ds = c.args.env.now in
    let hs = c.args.context.now in
    let grows = c.in-Ok.ensures.grows in
    let f = found (store_of old c.args.store.now) t (tree_of old c.args.kind) in
    let os = openings_of mid c.in-Ok.openings.items in
    let l = c.opened.new.work.ticks.now.left in
    let left = c.chosen.new.work.ticks.now.left in
    chosen_does (λ n. scene_by (env_of old ds) s k (context_of old hs) T vs n) (tree_of old c.args.wanted) f c.args.work.now.ticks.now.left l os (c.in-Ok.ensures.answer s k T t vs) new (choice_of new) c.chosen.result left
    (choose_as (env_of mid ds) (env_of old ds) s k (context_of mid hs) (context_of old hs) T vs (tree_of mid c.args.wanted) (tree_of old c.args.wanted) os new (choice_of new) c.chosen.result l left
    (env_of-grown old mid grows ds c.requires.declared.env) (same_context old mid grows c.args.store.now hs c.requires.place) (grows.tree c.args.wanted c.requires.wanted.has) (c.chosen.ensures.answer s k T vs))

pub returns-in-Err-clause-answer : goal.returns-in-Err-clause-answer
returns-in-Err-clause-answer g c s k T t vs =
    let old = c.args.work.now.bank.now in
    not_open (λ n. scene_by (env_of old c.args.env.now) s k (context_of old c.args.context.now) T vs n) (tree_of old c.args.wanted) (found (store_of old c.args.store.now) t (tree_of old c.args.kind)) c.args.work.now.ticks.now.left
    c.opened.new.work.bank.now c.in-Err.fault c.opened.new.work.ticks.now.left (c.in-Err.ensures.answer s k T t vs)
