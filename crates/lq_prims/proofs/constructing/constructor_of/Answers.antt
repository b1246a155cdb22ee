use Rattle.std.proofs.Common.{suc, []}
use Rattle.lq_terms.specs.Terms.{tree_of}
use Rattle.lq_env.specs.Environments.{env_of}
use Rattle.lq_evars.specs.Places.{store_of}
use Rattle.lq_prims.specs.Inductives.{inductive_by}
use Rattle.lq_prims.specs.Scenes.{context_at}
use Rattle.lq_prims.proofs.SceneLaws.{plain_scene}
use Rattle.lq_prims.proofs.ConstructLaws.{type_refused, type_does, work_stands}
use Rattle.lq_prims.proofs.constructing.constructor_of.Goals as goal

pub returns-in-Ok-clause-answer : goal.returns-in-Ok-clause-answer
returns-in-Ok-clause-answer g c vs =
    let bank = c.args.work.now.bank.now in
    let mid = c.goal_inductive.new.work.bank.now in
    let new = c.picked.new.bank in
    let s = store_of bank c.args.store.now in
    type_does (env_of bank c.args.env.now) s c.args.goal (context_at s c.args.goal) (tree_of bank c.args.kind) vs c.args.wanted c.args.number c.args.work.now.ticks.now.left
    new c.picked.result c.goal_inductive.new.work.ticks.now.left (inductive_by mid c.in-Ok.inductive) (c.in-Ok.ensures.answer vs) c.picked.ensures.answer

pub returns-in-Ok-clause-stands : goal.returns-in-Ok-clause-stands
returns-in-Ok-clause-stands g c =
    let bank = c.args.work.now.bank.now in
    let mid = c.goal_inductive.new.work.bank.now in
    let new = c.picked.new.bank in
    let s = store_of bank c.args.store.now in
    let E = env_of bank c.args.env.now in
    let G = context_at s c.args.goal in
    let T = tree_of bank c.args.kind in
    let b = c.args.work.now.ticks.now.left in
    let l = c.goal_inductive.new.work.ticks.now.left in
    work_stands E s c.args.goal G T [] c.args.wanted c.args.number b new c.picked.result l
    (type_does E s c.args.goal G T [] c.args.wanted c.args.number b new c.picked.result l (inductive_by mid c.in-Ok.inductive) (c.in-Ok.ensures.answer []) c.picked.ensures.answer)
    (plain_scene bank c.args.env.now c.args.store.now c.args.goal c.args.kind c.requires.placed (suc b))

pub returns-in-Err-clause-answer : goal.returns-in-Err-clause-answer
returns-in-Err-clause-answer g c vs =
    let bank = c.args.work.now.bank.now in
    let s = store_of bank c.args.store.now in
    type_refused (env_of bank c.args.env.now) s c.args.goal (context_at s c.args.goal) (tree_of bank c.args.kind) vs c.args.wanted c.args.number c.args.work.now.ticks.now.left
    c.goal_inductive.new.work.bank.now c.in-Err.fault c.goal_inductive.new.work.ticks.now.left (c.in-Err.ensures.answer vs)
