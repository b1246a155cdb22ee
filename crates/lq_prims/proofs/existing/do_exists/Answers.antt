use Rattle.std.proofs.Common.{ap, ap₂, []}
use Rattle.std.proofs.Common.{subst as along}
use Rattle.std.specs.Prelude.{IfOk}
use Rattle.lq_ast.specs.Plain.{plain}
use Rattle.lq_terms.specs.Terms.{tree_of}
use Rattle.lq_env.specs.Environments.{env_of}
use Rattle.lq_evars.specs.Places.{store_of}
use Rattle.lq_evars.proofs.Growing.{store_of-grown}
use Rattle.lq_elab.specs.States.{givens_of}
use Rattle.lq_elab.proofs.StateLaws.{givens_grown}
use Rattle.lq_tactics.proofs.RowsKept.{IsReached}
use Rattle.lq_prims.specs.Building.{built_done}
use Rattle.lq_prims.specs.Existing.{exists_work}
use Rattle.lq_prims.specs.Inductives.{found_by}
use Rattle.lq_prims.specs.Scenes.{context_at, scene_in}
use Rattle.lq_prims.proofs.ExistLaws.{exists_unfound, exists_only}
use Rattle.lq_prims.proofs.GrownLaws.{placed_later, same_scene, values_later}
use Rattle.lq_prims.proofs.WorkLaws.{does_same}
use Rattle.lq_prims.proofs.existing.do_exists.Goals as goal

pub exists_of-requires-clause-placed : goal.exists_of-requires-clause-placed
exists_of-requires-clause-placed g c = placed_later c.args.work.now.bank.now c.only_constructor.new.work.bank.now c.in-Ok.ensures.grows c.args.env.now c.args.store.now c.args.goal c.args.kind c.requires.placed

pub exists_of-requires-clause-values : goal.exists_of-requires-clause-values
exists_of-requires-clause-values g c = (givens_grown c.args.work.now.bank.now c.only_constructor.new.work.bank.now c.in-Ok.ensures.grows c.args.values.now c.requires.values).1

pub exists_of-requires-clause-values_stand : goal.exists_of-requires-clause-values_stand
exists_of-requires-clause-values_stand g c =
    values_later c.args.work.now.bank.now c.only_constructor.new.work.bank.now c.in-Ok.ensures.grows c.args.env.now c.args.store.now c.args.goal c.args.kind c.requires.placed c.args.values.now c.requires.values c.requires.values_stand

pub returns-in-Ok-clause-answer : goal.returns-in-Ok-clause-answer
returns-in-Ok-clause-answer g c =
    let bank = c.args.work.now.bank.now in
    let mid = c.only_constructor.new.work.bank.now in
    let grows = c.in-Ok.ensures.grows in
    let ds = c.args.env.now in
    let p = c.args.store.now in
    let k = c.args.goal in
    let S = store_of bank p in
    let t = plain c.args.term.now in
    let vs = givens_of bank c.args.values.now in
    let new = c.exists_of.new.work.bank.now in
    let tell = built_done new c.exists_of.new.store in
    let f = found_by mid S c.in-Ok.function in
    let l = c.only_constructor.new.work.ticks.now.left in
    let left = c.exists_of.new.work.ticks.now.left in
    exists_only (env_of bank ds) S k (context_at S k) (tree_of bank c.args.kind) vs t c.args.work.now.ticks.now.left l f (c.in-Ok.ensures.answer vs) new tell c.exists_of.result left
    (does_same new tell c.exists_of.result (λ n. exists_work (scene_in mid ds p k c.args.kind (givens_of mid c.args.values.now) n) t (found_by mid (store_of mid p) c.in-Ok.function)) (λ n. exists_work (scene_in bank ds p k c.args.kind vs n) t f) l left
    (λ n. ap₂ (λ d h. exists_work d t h) (same_scene bank mid grows ds p k c.args.kind c.requires.placed c.args.values.now c.requires.values n) (ap (λ z. found_by mid z c.in-Ok.function) (store_of-grown bank mid grows p c.requires.placed.place.store)))
    c.exists_of.ensures.answer)

pub returns-in-Ok-clause-reached : goal.returns-in-Ok-clause-reached
returns-in-Ok-clause-reached g c =
    let new = c.exists_of.new.work.bank.now in
    along (λ d. IfOk c.exists_of.result (λ b. IsReached d (built_done new c.exists_of.new.store b)))
    (same_scene c.args.work.now.bank.now c.only_constructor.new.work.bank.now c.in-Ok.ensures.grows c.args.env.now c.args.store.now c.args.goal c.args.kind c.requires.placed [] tt 0) c.exists_of.ensures.reached

pub returns-in-Err-clause-answer : goal.returns-in-Err-clause-answer
returns-in-Err-clause-answer g c =
    let bank = c.args.work.now.bank.now in
    let S = store_of bank c.args.store.now in
    let vs = givens_of bank c.args.values.now in
    exists_unfound (env_of bank c.args.env.now) S c.args.goal (context_at S c.args.goal) (tree_of bank c.args.kind) vs (plain c.args.term.now) c.only_constructor.new.work.bank.now c.in-Err.fault c.args.work.now.ticks.now.left
    c.only_constructor.new.work.ticks.now.left (c.in-Err.ensures.answer vs)
