use Rattle.std.proofs.Common.{sym, Ok, Err}
use Rattle.std.proofs.Common.{subst as along}
use Rattle.lq_env.specs.Environments.{env_of}
use Rattle.lq_evars.specs.Places.{store_of}
use Rattle.lq_prims.specs.Placing.{Sets}
use Rattle.lq_prims.specs.Scenes.{IsGoal, scene_in}
use Rattle.lq_tactics.specs.Applying.{constructor_count}
use Rattle.lq_prims.specs.Working.{Does}
use Rattle.lq_prims.proofs.AdvanceLaws.{goal_there, scene_later}
use Rattle.lq_prims.proofs.CountLaws.{no_count, count_before}
use Rattle.lq_prims.proofs.counting.constructor_count.Goals as goal

pub goal_kind-requires : goal.goal_kind-requires
goal_kind-requires g c = along (λ z. IsGoal c.args.work.now.bank.now z c.args.goal) (sym c.store-store.ensures) (goal_there c.args.work.now.bank.now c.args.env.now c.args.proof.now c.args.goal c.requires.may)

pub count-requires : goal.count-requires
count-requires g c = record { placed = c.in-Ok.ensures.placed c.args.env.now c.requires.may.declared }

pub returns-in-Ok-clause-answer : goal.returns-in-Ok-clause-answer
returns-in-Ok-clause-answer g c vs =
    let old = c.args.work.now.bank.now in
    let mid = c.goal_kind.new.bank in
    let q = c.args.proof.now in
    let E = env_of mid c.args.env.now in
    let new = c.count.new.work.bank.now in
    count_before old mid c.in-Ok.ensures.grows c.args.env.now c.requires.may.declared.env q.store c.requires.may.held.store c.args.goal c.in-Ok.kind vs
    (λ n. scene_later old mid c.in-Ok.ensures.grows q c.requires.may.held E vs c.args.goal c.in-Ok.kind n
    (along (λ z. Sets mid E (store_of old z) c.args.goal vs (Ok c.in-Ok.kind)) c.store-store.ensures (c.in-Ok.ensures.answer E vs) n))
    new (λ n. n) c.count.result c.args.work.now.ticks.now.left c.count.new.work.ticks.now.left
    (along (λ z. Does new (λ n. n) c.count.result (λ n. constructor_count (scene_in mid c.args.env.now z c.args.goal c.in-Ok.kind vs n)) c.args.work.now.ticks.now.left c.count.new.work.ticks.now.left) c.store-store.ensures (c.count.ensures.answer vs))

pub returns-in-Err-clause-answer : goal.returns-in-Err-clause-answer
returns-in-Err-clause-answer g c vs =
    let old = c.args.work.now.bank.now in
    let b = c.args.work.now.ticks.now.left in
    let E = env_of old c.args.env.now in
    no_count E (store_of old c.args.proof.now.store) c.args.goal vs c.goal_kind.new.bank c.in-Err.fault b b
    (along (λ z. Sets c.goal_kind.new.bank E (store_of old z) c.args.goal vs (Err c.in-Err.fault)) c.store-store.ensures (c.in-Err.ensures.answer E vs) b)
