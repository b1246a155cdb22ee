use Rattle.std.proofs.Common.{ℕ, refl, []}
use Rattle.lq_ast.specs.Plain.{plain}
use Rattle.lq_evars.specs.Places.{store_of}
use Rattle.lq_elab.specs.States.{givens_of}
use Rattle.lq_terms.specs.Terms.{tree_of}
use Rattle.lq_tactics.specs.Rows.{Scene, Step, done_by, given_to}
use Rattle.lq_tactics.specs.Primitives.{do_exact}
use Rattle.lq_prims.specs.Scenes.{scene_in, step_by}
use Rattle.lq_prims.proofs.SceneLaws.{plain_scene}
use Rattle.lq_prims.proofs.RowLaws.{may_give}
use Rattle.lq_prims.proofs.LeaveLaws.{give_leaves}
use Rattle.lq_prims.proofs.WorkLaws.{does_ended, refuses_ended, does_at_once}
use Rattle.lq_prims.proofs.exacting.exact.Goals as goal

pub give-requires-clause-kept : goal.give-requires-clause-kept
give-requires-clause-kept g c =
    let mid = c.do_exact.new.work.bank.now in
    (may_give mid c.do_exact.new.store (scene_in c.args.work.now.bank.now c.args.env.now c.args.store.now c.args.goal c.args.kind [] 0) (done_by (store_of mid c.do_exact.new.store) (tree_of mid c.in-Ok.body) [])
    (plain_scene c.args.work.now.bank.now c.args.env.now c.args.store.now c.args.goal c.args.kind c.requires.placed 0) (c.in-Ok.ensures.reached [] 0) refl).kept

pub give-requires-clause-goal : goal.give-requires-clause-goal
give-requires-clause-goal g c =
    let mid = c.do_exact.new.work.bank.now in
    (may_give mid c.do_exact.new.store (scene_in c.args.work.now.bank.now c.args.env.now c.args.store.now c.args.goal c.args.kind [] 0) (done_by (store_of mid c.do_exact.new.store) (tree_of mid c.in-Ok.body) [])
    (plain_scene c.args.work.now.bank.now c.args.env.now c.args.store.now c.args.goal c.args.kind c.requires.placed 0) (c.in-Ok.ensures.reached [] 0) refl).goal

pub give-requires-clause-stands : goal.give-requires-clause-stands
give-requires-clause-stands g c =
    let mid = c.do_exact.new.work.bank.now in
    (may_give mid c.do_exact.new.store (scene_in c.args.work.now.bank.now c.args.env.now c.args.store.now c.args.goal c.args.kind [] 0) (done_by (store_of mid c.do_exact.new.store) (tree_of mid c.in-Ok.body) [])
    (plain_scene c.args.work.now.bank.now c.args.env.now c.args.store.now c.args.goal c.args.kind c.requires.placed 0) (c.in-Ok.ensures.reached [] 0) refl).stands

pub returns-in-Ok-clause-answer : goal.returns-in-Ok-clause-answer
returns-in-Ok-clause-answer g c =
    let bank = c.args.work.now.bank.now in
    let mid = c.do_exact.new.work.bank.now in
    let new = c.give.new.bank in
    let l = c.do_exact.new.work.ticks.now.left in
    let f : ℕ → Scene = λ n. scene_in bank c.args.env.now c.args.store.now c.args.goal c.args.kind (givens_of bank c.args.values.now) n in
    let d = done_by (store_of mid c.do_exact.new.store) (tree_of mid c.in-Ok.body) [] in
    let tell : Unit {0} → Step = λ u. step_by (store_of new c.give.new.store) [] in
    does_ended f c.args.goal (λ n. refl) (λ n. do_exact (f n) (plain c.args.term.now)) new tell c.give.result c.args.work.now.ticks.now.left l l d c.in-Ok.ensures.answer
    (does_at_once new tell c.give.result (given_to c.args.goal d) (c.give.ensures.answer []) l)

pub returns-in-Ok-clause-leaves : goal.returns-in-Ok-clause-leaves
returns-in-Ok-clause-leaves g c =
    let bank = c.args.work.now.bank.now in
    let mid = c.do_exact.new.work.bank.now in
    give_leaves (scene_in bank c.args.env.now c.args.store.now c.args.goal c.args.kind [] 0) (done_by (store_of mid c.do_exact.new.store) (tree_of mid c.in-Ok.body) []) c.give.new.bank c.give.new.store [] c.give.result
    (plain_scene bank c.args.env.now c.args.store.now c.args.goal c.args.kind c.requires.placed 0) (c.in-Ok.ensures.reached [] 0) (c.give.ensures.answer [])

pub returns-in-Err-clause-answer : goal.returns-in-Err-clause-answer
returns-in-Err-clause-answer g c =
    let bank = c.args.work.now.bank.now in
    let f : ℕ → Scene = λ n. scene_in bank c.args.env.now c.args.store.now c.args.goal c.args.kind (givens_of bank c.args.values.now) n in
    refuses_ended f c.args.goal (λ n. refl) (λ n. do_exact (f n) (plain c.args.term.now)) c.do_exact.new.work.bank.now c.in-Err.fault c.args.work.now.ticks.now.left c.do_exact.new.work.ticks.now.left c.in-Err.ensures.answer
