use Rattle.std.proofs.Common.{◌≡◌}
use Rattle.std.proofs.Common.{subst as along}
use Rattle.lq_trees.specs.Ticks.{gives}
use Rattle.lq_terms.specs.Terms.{tree_of}
use Rattle.lq_solving.specs.Stores.{read}
use Rattle.lq_evars.specs.Places.{store_of}
use Rattle.lq_tactics.specs.Rows.{needed}
use Rattle.lq_prims.specs.Working.{Refuses}
use Rattle.lq_prims.proofs.SceneLaws.{there, goal_type}
use Rattle.lq_prims.proofs.PlaceLaws.{scene_now, scene_refused, is_placed}
use Rattle.lq_prims.proofs.placing.goal_kind.Goals as goal

pub needed-requires-clause-term : goal.needed-requires-clause-term
needed-requires-clause-term c =
    (goal_type c.args.bank.now c.args.store.now c.args.goal c.requires c.kind-kind.result (λ v e. c.kind-kind.ensures.place v e) (λ v e. c.kind-kind.ensures.told c.args.bank.now v e)).has

pub needed-requires-clause-over : goal.needed-requires-clause-over
needed-requires-clause-over c =
    (goal_type c.args.bank.now c.args.store.now c.args.goal c.requires c.kind-kind.result (λ v e. c.kind-kind.ensures.place v e) (λ v e. c.kind-kind.ensures.told c.args.bank.now v e)).over

pub needed-requires-clause-closed : goal.needed-requires-clause-closed
needed-requires-clause-closed c =
    (goal_type c.args.bank.now c.args.store.now c.args.goal c.requires c.kind-kind.result (λ v e. c.kind-kind.ensures.place v e) (λ v e. c.kind-kind.ensures.told c.args.bank.now v e)).within

pub returns-in-Ok-clause-answer : goal.returns-in-Ok-clause-answer
returns-in-Ok-clause-answer c E vs n =
    let bank = c.args.bank.now in
    let s = store_of bank c.args.store.now in
    let v = there bank c.args.store.now c.args.goal c.requires in
    scene_now E vs s c.args.goal v.0 v.1 (tree_of c.needed.new.bank c.in-Ok.read)
    (along (λ z. needed (read s z) ≡ gives (tree_of c.needed.new.bank c.in-Ok.read)) (c.kind-kind.ensures.told bank v.0 v.1) c.in-Ok.ensures.answer) n

pub returns-in-Ok-clause-placed : goal.returns-in-Ok-clause-placed
returns-in-Ok-clause-placed c ds d =
    let bank = c.args.bank.now in
    is_placed bank c.needed.new.bank c.in-Ok.ensures.grows ds c.args.store.now c.args.goal c.in-Ok.read (tree_of bank c.kind-kind.result) d c.requires c.in-Ok.ensures.has (λ v e. c.kind-kind.ensures.told bank v e) c.in-Ok.ensures.answer

pub returns-in-Err-clause-answer : goal.returns-in-Err-clause-answer
returns-in-Err-clause-answer c E vs b =
    let bank = c.args.bank.now in
    let s = store_of bank c.args.store.now in
    let v = there bank c.args.store.now c.args.goal c.requires in
    scene_refused E vs s c.args.goal v.0 v.1 c.needed.new.bank c.in-Err.fault b
    (along (λ z. Refuses c.needed.new.bank c.in-Err.fault (λ n. needed (read s z)) b b) (c.kind-kind.ensures.told bank v.0 v.1) (c.in-Err.ensures.answer b))
