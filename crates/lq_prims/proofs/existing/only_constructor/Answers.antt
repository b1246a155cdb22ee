use Rattle.std.proofs.Common.{[]}
use Rattle.lq_terms.specs.Terms.{tree_of}
use Rattle.lq_terms.proofs.Growth.{Grows-trans}
use Rattle.lq_env.specs.Environments.{env_of}
use Rattle.lq_evars.specs.Places.{store_of}
use Rattle.lq_prims.specs.Inductives.{inductive_by, found_by}
use Rattle.lq_prims.specs.Scenes.{context_at, scene_in}
use Rattle.lq_prims.proofs.ExistLaws.{only_unfound, only_then, only_stood}
use Rattle.lq_prims.proofs.existing.only_constructor.Goals as goal

pub returns-in-Ok-clause-answer : goal.returns-in-Ok-clause-answer
returns-in-Ok-clause-answer g c vs =
    let bank = c.args.work.now.bank.now in
    let mid = c.goal_inductive.new.work.bank.now in
    let S = store_of bank c.args.store.now in
    let new = c.only_of.new.bank in
    only_then (env_of bank c.args.env.now) S c.args.goal (context_at S c.args.goal) (tree_of bank c.args.kind) vs c.args.work.now.ticks.now.left c.goal_inductive.new.work.ticks.now.left (inductive_by mid c.in-Ok.inductive)
    (c.in-Ok.ensures.answer vs) new (found_by new S) c.only_of.result (c.only_of.ensures.answer (scene_in bank c.args.env.now c.args.store.now c.args.goal c.args.kind vs 0))

pub returns-in-Ok-clause-stands : goal.returns-in-Ok-clause-stands
returns-in-Ok-clause-stands g c =
    let bank = c.args.work.now.bank.now in
    let mid = c.goal_inductive.new.work.bank.now in
    let S = store_of bank c.args.store.now in
    let new = c.only_of.new.bank in
    let b = c.args.work.now.ticks.now.left in
    let l = c.goal_inductive.new.work.ticks.now.left in
    only_stood bank c.args.env.now c.args.store.now c.args.goal c.args.kind c.requires.placed b l new (Grows-trans bank mid new c.in-Ok.ensures.grows c.only_of.ensures.grows) c.only_of.result c.only_of.ensures.has
    (only_then (env_of bank c.args.env.now) S c.args.goal (context_at S c.args.goal) (tree_of bank c.args.kind) [] b l (inductive_by mid c.in-Ok.inductive)
    (c.in-Ok.ensures.answer []) new (found_by new S) c.only_of.result (c.only_of.ensures.answer (scene_in bank c.args.env.now c.args.store.now c.args.goal c.args.kind [] 0)))

pub returns-in-Err-clause-answer : goal.returns-in-Err-clause-answer
returns-in-Err-clause-answer g c vs =
    let bank = c.args.work.now.bank.now in
    let S = store_of bank c.args.store.now in
    only_unfound (env_of bank c.args.env.now) S c.args.goal (context_at S c.args.goal) (tree_of bank c.args.kind) vs c.goal_inductive.new.work.bank.now c.in-Err.fault c.args.work.now.ticks.now.left
    c.goal_inductive.new.work.ticks.now.left (c.in-Err.ensures.answer vs)
