use Rattle.std.proofs.Common.{sym, Ok, Err}
use Rattle.std.proofs.Common.{subst as along}
use Rattle.lq_ast.specs.Plain.{plain_prim}
use Rattle.lq_env.specs.Environments.{env_of}
use Rattle.lq_evars.specs.Places.{store_of}
use Rattle.lq_elab.specs.States.{givens_of}
use Rattle.lq_goals.specs.Held.{proof_of}
use Rattle.lq_prims.specs.Finishing.{done_with}
use Rattle.lq_prims.specs.Placing.{Sets}
use Rattle.lq_prims.specs.Scenes.{IsGoal, IsPlaced}
use Rattle.lq_elab.proofs.StateLaws.{givens_grown}
use Rattle.lq_prims.proofs.AdvanceLaws.{goal_there, may_later, values_later, run_before, scene_later, no_scene, grown_before}
use Rattle.lq_prims.proofs.advancing.advance.Goals as goal

pub goal_kind-requires : goal.goal_kind-requires
goal_kind-requires g c = along (λ z. IsGoal c.args.work.now.bank.now z c.args.goal) (sym c.store.ensures) (goal_there c.args.work.now.bank.now c.args.env.now c.args.proof.now c.args.goal c.requires.may)

pub on_goal-requires-clause-may : goal.on_goal-requires-clause-may
on_goal-requires-clause-may g c = may_later c.args.work.now.bank.now c.goal_kind.new.bank c.in-Ok.ensures.grows c.args.proof.now c.requires.may.held c.args.env.now c.args.goal c.requires.may

pub on_goal-requires-clause-placed : goal.on_goal-requires-clause-placed
on_goal-requires-clause-placed g c = along (λ z. IsPlaced c.goal_kind.new.bank c.args.env.now z c.args.goal c.in-Ok.kind) c.store.ensures (c.in-Ok.ensures.placed c.args.env.now c.requires.may.declared)

pub on_goal-requires-clause-values : goal.on_goal-requires-clause-values
on_goal-requires-clause-values g c = (givens_grown c.args.work.now.bank.now c.goal_kind.new.bank c.in-Ok.ensures.grows c.args.values.now c.requires.values).1

pub on_goal-requires-clause-values_stand : goal.on_goal-requires-clause-values_stand
on_goal-requires-clause-values_stand g c = values_later c.args.work.now.bank.now c.goal_kind.new.bank c.in-Ok.ensures.grows c.args.proof.now c.requires.may.held c.args.values.now c.requires.values c.requires.values_stand

pub returns-in-Ok-clause-answer : goal.returns-in-Ok-clause-answer
returns-in-Ok-clause-answer g c =
    let old = c.args.work.now.bank.now in
    let mid = c.goal_kind.new.bank in
    let q = c.args.proof.now in
    let E = env_of mid c.args.env.now in
    let vs = givens_of mid c.args.values.now in
    let new = c.on_goal.new.work.bank.now in
    run_before old mid c.in-Ok.ensures.grows q c.requires.may.held c.args.env.now c.requires.may.declared.env c.args.values.now c.requires.values c.args.goal (plain_prim c.args.prim.now)
    new (λ d. done_with new c.on_goal.new.proof d.goals.items d.shelved.items) c.on_goal.result c.args.work.now.ticks.now.left c.on_goal.new.work.ticks.now.left
    (c.on_goal.ensures.answer (λ n. scene_later old mid c.in-Ok.ensures.grows q c.requires.may.held E vs c.args.goal c.in-Ok.kind n
    (along (λ z. Sets mid E (store_of old z) c.args.goal vs (Ok c.in-Ok.kind)) c.store.ensures (c.in-Ok.ensures.answer E vs) n)))

pub returns-in-Ok-clause-grown : goal.returns-in-Ok-clause-grown
returns-in-Ok-clause-grown g c =
    grown_before c.args.work.now.bank.now c.goal_kind.new.bank c.in-Ok.ensures.grows c.args.proof.now c.requires.may.held c.on_goal.result (store_of c.on_goal.new.work.bank.now c.on_goal.new.proof.store) c.on_goal.ensures.grown

pub returns-in-Err-clause-answer : goal.returns-in-Err-clause-answer
returns-in-Err-clause-answer g c =
    let old = c.args.work.now.bank.now in
    let b = c.args.work.now.ticks.now.left in
    let E = env_of old c.args.env.now in
    let vs = givens_of old c.args.values.now in
    no_scene E (proof_of old c.args.proof.now) c.args.goal (plain_prim c.args.prim.now) vs c.goal_kind.new.bank c.in-Err.fault b b
    (along (λ z. Sets c.goal_kind.new.bank E (store_of old z) c.args.goal vs (Err c.in-Err.fault)) c.store.ensures (c.in-Err.ensures.answer E vs) b)
