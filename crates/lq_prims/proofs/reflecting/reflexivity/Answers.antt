use Rattle.std.proofs.Common.{ℕ, suc, refl, [], arith}
use Rattle.lq_terms.specs.Terms.{tree_of}
use Rattle.lq_evars.specs.Places.{store_of}
use Rattle.lq_tactics.specs.Rows.{Scene, Step, done_by, given_to}
use Rattle.lq_tactics.specs.Primitives.{do_reflexivity}
use Rattle.lq_prims.specs.Scenes.{scene_in, step_by}
use Rattle.lq_prims.proofs.SceneLaws.{plain_scene}
use Rattle.lq_prims.proofs.RowLaws.{may_give}
use Rattle.lq_prims.proofs.ReflexRows.{reflexivity_gives}
use Rattle.lq_prims.proofs.WorkLaws.{handed_on, comes_is_given, does_ended, refuses_ended, does_at_once}
use Rattle.lq_prims.proofs.reflecting.reflexivity.Goals as goal

pub returns-in_err-body-clause-answer : goal.returns-in_err-body-clause-answer
returns-in_err-body-clause-answer g c vs =
    let bank = c.args.work.now.bank.now in
    let new = c.do_reflexivity.new.work.bank.now in
    let b = c.args.work.now.ticks.now.left in
    let left = c.do_reflexivity.new.work.ticks.now.left in
    let f : ℕ → Scene = λ n. scene_in bank c.args.env.now c.args.store.now c.args.goal c.args.kind vs n in
    handed_on new _ c.from_residual.result c.in_err-body.field-0.0 _ b left c.from_residual.ensures.1
    (refuses_ended f c.args.goal (λ n. refl) (λ n. do_reflexivity (f n)) new c.in_err-body.field-0.0 b left (c.in_err-body.ensures.answer vs))

pub give-requires-clause-kept : goal.give-requires-clause-kept
give-requires-clause-kept g c =
    let bank = c.args.work.now.bank.now in
    let mid = c.do_reflexivity.new.work.bank.now in
    let b = c.args.work.now.ticks.now.left in
    let f : ℕ → Scene = λ n. scene_in bank c.args.env.now c.args.store.now c.args.goal c.args.kind [] n in
    let s = plain_scene bank c.args.env.now c.args.store.now c.args.goal c.args.kind c.requires.placed (suc b) in
    let d = done_by (store_of mid c.do_reflexivity.new.store) (tree_of mid c.in_ok-body.body) [] in
    (may_give mid c.do_reflexivity.new.store (f (suc b)) d s (reflexivity_gives (f (suc b)) d s (c.has_room.ensures bank c.requires.placed.place) (omega (arith, c.args.work.now.ticks.now.bounded))
    (comes_is_given (λ n. do_reflexivity (f n)) b c.do_reflexivity.new.work.ticks.now.left d (c.in_ok-body.ensures.answer []))) refl).kept

pub give-requires-clause-goal : goal.give-requires-clause-goal
give-requires-clause-goal g c =
    let bank = c.args.work.now.bank.now in
    let mid = c.do_reflexivity.new.work.bank.now in
    let b = c.args.work.now.ticks.now.left in
    let f : ℕ → Scene = λ n. scene_in bank c.args.env.now c.args.store.now c.args.goal c.args.kind [] n in
    let s = plain_scene bank c.args.env.now c.args.store.now c.args.goal c.args.kind c.requires.placed (suc b) in
    let d = done_by (store_of mid c.do_reflexivity.new.store) (tree_of mid c.in_ok-body.body) [] in
    (may_give mid c.do_reflexivity.new.store (f (suc b)) d s (reflexivity_gives (f (suc b)) d s (c.has_room.ensures bank c.requires.placed.place) (omega (arith, c.args.work.now.ticks.now.bounded))
    (comes_is_given (λ n. do_reflexivity (f n)) b c.do_reflexivity.new.work.ticks.now.left d (c.in_ok-body.ensures.answer []))) refl).goal

pub give-requires-clause-stands : goal.give-requires-clause-stands
give-requires-clause-stands g c =
    let bank = c.args.work.now.bank.now in
    let mid = c.do_reflexivity.new.work.bank.now in
    let b = c.args.work.now.ticks.now.left in
    let f : ℕ → Scene = λ n. scene_in bank c.args.env.now c.args.store.now c.args.goal c.args.kind [] n in
    let s = plain_scene bank c.args.env.now c.args.store.now c.args.goal c.args.kind c.requires.placed (suc b) in
    let d = done_by (store_of mid c.do_reflexivity.new.store) (tree_of mid c.in_ok-body.body) [] in
    (may_give mid c.do_reflexivity.new.store (f (suc b)) d s (reflexivity_gives (f (suc b)) d s (c.has_room.ensures bank c.requires.placed.place) (omega (arith, c.args.work.now.ticks.now.bounded))
    (comes_is_given (λ n. do_reflexivity (f n)) b c.do_reflexivity.new.work.ticks.now.left d (c.in_ok-body.ensures.answer []))) refl).stands

pub returns-clause-answer : goal.returns-clause-answer
returns-clause-answer g c vs =
    let bank = c.args.work.now.bank.now in
    let mid = c.do_reflexivity.new.work.bank.now in
    let new = c.give.new.bank in
    let b = c.args.work.now.ticks.now.left in
    let l = c.do_reflexivity.new.work.ticks.now.left in
    let f : ℕ → Scene = λ n. scene_in bank c.args.env.now c.args.store.now c.args.goal c.args.kind vs n in
    let d = done_by (store_of mid c.do_reflexivity.new.store) (tree_of mid c.in_ok-body.body) [] in
    let tell : Unit {0} → Step = λ u. step_by (store_of new c.give.new.store) [] in
    does_ended f c.args.goal (λ n. refl) (λ n. do_reflexivity (f n)) new tell c.give.result b l l d (c.in_ok-body.ensures.answer vs)
    (does_at_once new tell c.give.result (given_to c.args.goal d) (c.give.ensures.answer []) l)
