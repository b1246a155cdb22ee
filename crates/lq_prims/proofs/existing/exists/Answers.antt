use Rattle.std.proofs.Common.{ℕ, refl, []}
use Rattle.lq_ast.specs.Plain.{plain}
use Rattle.lq_evars.specs.Places.{store_of}
use Rattle.lq_elab.specs.States.{givens_of}
use Rattle.lq_tactics.specs.Rows.{Scene, given_to}
use Rattle.lq_tactics.specs.Primitives.{do_exists}
use Rattle.lq_prims.specs.Building.{built_done}
use Rattle.lq_prims.specs.Scenes.{scene_in, step_by}
use Rattle.lq_prims.proofs.SceneLaws.{plain_scene}
use Rattle.lq_prims.proofs.RowLaws.{may_give}
use Rattle.lq_prims.proofs.LeaveLaws.{leaves_given}
use Rattle.lq_prims.proofs.WorkLaws.{does_ended, refuses_ended, does_at_once}
use Rattle.lq_prims.proofs.existing.exists.Goals as goal

pub given-requires-clause-kept : goal.given-requires-clause-kept
given-requires-clause-kept g c =
    let mid = c.do_exists.new.work.bank.now in
    (may_give mid c.do_exists.new.store (scene_in c.args.work.now.bank.now c.args.env.now c.args.store.now c.args.goal c.args.kind [] 0) (built_done mid c.do_exists.new.store c.in-Ok.built)
    (plain_scene c.args.work.now.bank.now c.args.env.now c.args.store.now c.args.goal c.args.kind c.requires.placed 0) c.in-Ok.ensures.reached refl).kept

pub given-requires-clause-goal : goal.given-requires-clause-goal
given-requires-clause-goal g c =
    let mid = c.do_exists.new.work.bank.now in
    (may_give mid c.do_exists.new.store (scene_in c.args.work.now.bank.now c.args.env.now c.args.store.now c.args.goal c.args.kind [] 0) (built_done mid c.do_exists.new.store c.in-Ok.built)
    (plain_scene c.args.work.now.bank.now c.args.env.now c.args.store.now c.args.goal c.args.kind c.requires.placed 0) c.in-Ok.ensures.reached refl).goal

pub given-requires-clause-stands : goal.given-requires-clause-stands
given-requires-clause-stands g c =
    let mid = c.do_exists.new.work.bank.now in
    (may_give mid c.do_exists.new.store (scene_in c.args.work.now.bank.now c.args.env.now c.args.store.now c.args.goal c.args.kind [] 0) (built_done mid c.do_exists.new.store c.in-Ok.built)
    (plain_scene c.args.work.now.bank.now c.args.env.now c.args.store.now c.args.goal c.args.kind c.requires.placed 0) c.in-Ok.ensures.reached refl).stands

pub returns-in-Ok-clause-answer : goal.returns-in-Ok-clause-answer
returns-in-Ok-clause-answer g c =
    let bank = c.args.work.now.bank.now in
    let mid = c.do_exists.new.work.bank.now in
    let l = c.do_exists.new.work.ticks.now.left in
    let f : ℕ → Scene = λ n. scene_in bank c.args.env.now c.args.store.now c.args.goal c.args.kind (givens_of bank c.args.values.now) n in
    let d = built_done mid c.do_exists.new.store c.in-Ok.built in
    does_ended f c.args.goal (λ n. refl) (λ n. do_exists (f n) (plain c.args.term.now)) c.given.new.bank (λ v. step_by (store_of c.given.new.bank c.given.new.store) v.items) c.given.result c.args.work.now.ticks.now.left l l d c.in-Ok.ensures.answer
    (does_at_once c.given.new.bank (λ v. step_by (store_of c.given.new.bank c.given.new.store) v.items) c.given.result (given_to c.args.goal d) c.given.ensures.answer l)

pub returns-in-Ok-clause-leaves : goal.returns-in-Ok-clause-leaves
returns-in-Ok-clause-leaves g c =
    let bank = c.args.work.now.bank.now in
    let mid = c.do_exists.new.work.bank.now in
    leaves_given (scene_in bank c.args.env.now c.args.store.now c.args.goal c.args.kind [] 0) (built_done mid c.do_exists.new.store c.in-Ok.built) c.given.new.bank c.given.new.store c.given.result
    (plain_scene bank c.args.env.now c.args.store.now c.args.goal c.args.kind c.requires.placed 0) c.in-Ok.ensures.reached c.given.ensures.answer

pub returns-in-Err-clause-answer : goal.returns-in-Err-clause-answer
returns-in-Err-clause-answer g c =
    let bank = c.args.work.now.bank.now in
    let f : ℕ → Scene = λ n. scene_in bank c.args.env.now c.args.store.now c.args.goal c.args.kind (givens_of bank c.args.values.now) n in
    refuses_ended f c.args.goal (λ n. refl) (λ n. do_exists (f n) (plain c.args.term.now)) c.do_exists.new.work.bank.now c.in-Err.fault c.args.work.now.ticks.now.left c.do_exists.new.work.ticks.now.left c.in-Err.ensures.answer
