use Rattle.std.proofs.Common.{ℕ, suc, refl, [], ◌∷◌, Ok, Err}
use Rattle.std.specs.Prelude.{option_map}
use Rattle.lq_terms.specs.Terms.{text_of}
use Rattle.lq_evars.specs.Places.{store_of}
use Rattle.lq_tactics.specs.Rows.{Scene, Step, given_to}
use Rattle.lq_tactics.specs.Primitives.{do_intro}
use Rattle.lq_prims.specs.Reaching.{reached_done}
use Rattle.lq_prims.specs.Scenes.{scene_in, step_by}
use Rattle.lq_prims.proofs.SceneLaws.{plain_scene}
use Rattle.lq_prims.proofs.RowLaws.{may_give, intro_gives}
use Rattle.lq_prims.proofs.WorkLaws.{handed_on, comes_is_given, does_ended, refuses_ended, does_at_once}
use Rattle.lq_prims.proofs.introducing.intro.Goals as goal

pub returns-in_err-reached-clause-answer : goal.returns-in_err-reached-clause-answer
returns-in_err-reached-clause-answer g c vs =
    let bank = c.args.work.now.bank.now in
    let new = c.do_intro.new.work.bank.now in
    let b = c.args.work.now.ticks.now.left in
    let left = c.do_intro.new.work.ticks.now.left in
    let w = option_map (text_of bank) c.args.written in
    let f : ℕ → Scene = λ n. scene_in bank c.args.env.now c.args.store.now c.args.goal c.args.kind vs n in
    handed_on new _ c.from_residual.result c.in_err-reached.field-0.0 _ b left c.from_residual.ensures.1
    (refuses_ended f c.args.goal (λ n. refl) (λ n. do_intro (f n) w) new c.in_err-reached.field-0.0 b left (c.in_err-reached.ensures.answer vs))

pub give-requires-clause-kept : goal.give-requires-clause-kept
give-requires-clause-kept g c =
    let bank = c.args.work.now.bank.now in
    let mid = c.do_intro.new.work.bank.now in
    let b = c.args.work.now.ticks.now.left in
    let w = option_map (text_of bank) c.args.written in
    let f : ℕ → Scene = λ n. scene_in bank c.args.env.now c.args.store.now c.args.goal c.args.kind [] n in
    let s = plain_scene bank c.args.env.now c.args.store.now c.args.goal c.args.kind c.requires.placed (suc b) in
    let d = reached_done mid c.do_intro.new.store c.in_ok-reached.reached in
    (may_give mid c.do_intro.new.store (f (suc b)) d s (intro_gives (f (suc b)) w d s (c.has_room.ensures bank c.requires.placed.place)
    (comes_is_given (λ n. do_intro (f n) w) b c.do_intro.new.work.ticks.now.left d (c.in_ok-reached.ensures.answer []))) refl).kept

pub give-requires-clause-goal : goal.give-requires-clause-goal
give-requires-clause-goal g c =
    let bank = c.args.work.now.bank.now in
    let mid = c.do_intro.new.work.bank.now in
    let b = c.args.work.now.ticks.now.left in
    let w = option_map (text_of bank) c.args.written in
    let f : ℕ → Scene = λ n. scene_in bank c.args.env.now c.args.store.now c.args.goal c.args.kind [] n in
    let s = plain_scene bank c.args.env.now c.args.store.now c.args.goal c.args.kind c.requires.placed (suc b) in
    let d = reached_done mid c.do_intro.new.store c.in_ok-reached.reached in
    (may_give mid c.do_intro.new.store (f (suc b)) d s (intro_gives (f (suc b)) w d s (c.has_room.ensures bank c.requires.placed.place)
    (comes_is_given (λ n. do_intro (f n) w) b c.do_intro.new.work.ticks.now.left d (c.in_ok-reached.ensures.answer []))) refl).goal

pub give-requires-clause-stands : goal.give-requires-clause-stands
give-requires-clause-stands g c =
    let bank = c.args.work.now.bank.now in
    let mid = c.do_intro.new.work.bank.now in
    let b = c.args.work.now.ticks.now.left in
    let w = option_map (text_of bank) c.args.written in
    let f : ℕ → Scene = λ n. scene_in bank c.args.env.now c.args.store.now c.args.goal c.args.kind [] n in
    let s = plain_scene bank c.args.env.now c.args.store.now c.args.goal c.args.kind c.requires.placed (suc b) in
    let d = reached_done mid c.do_intro.new.store c.in_ok-reached.reached in
    (may_give mid c.do_intro.new.store (f (suc b)) d s (intro_gives (f (suc b)) w d s (c.has_room.ensures bank c.requires.placed.place)
    (comes_is_given (λ n. do_intro (f n) w) b c.do_intro.new.work.ticks.now.left d (c.in_ok-reached.ensures.answer []))) refl).stands

pub returns-in-Ok-clause-answer : goal.returns-in-Ok-clause-answer
returns-in-Ok-clause-answer g c vs =
    let bank = c.args.work.now.bank.now in
    let mid = c.do_intro.new.work.bank.now in
    let new = c.give.new.bank in
    let b = c.args.work.now.ticks.now.left in
    let l = c.do_intro.new.work.ticks.now.left in
    let w = option_map (text_of bank) c.args.written in
    let f : ℕ → Scene = λ n. scene_in bank c.args.env.now c.args.store.now c.args.goal c.args.kind vs n in
    let d = reached_done mid c.do_intro.new.store c.in_ok-reached.reached in
    let tell : ℕ → Step = λ k. step_by (store_of new c.give.new.store) (k ∷ []) in
    does_ended f c.args.goal (λ n. refl) (λ n. do_intro (f n) w) new tell (Ok c.in_ok-reached.reached.goal) b l l d (c.in_ok-reached.ensures.answer vs)
    (does_at_once new tell (Ok c.in_ok-reached.reached.goal) (given_to c.args.goal d) (c.in-Ok.ensures.answer (c.in_ok-reached.reached.goal ∷ [])) l)

pub returns-in-Err-clause-answer : goal.returns-in-Err-clause-answer
returns-in-Err-clause-answer g c vs =
    let bank = c.args.work.now.bank.now in
    let mid = c.do_intro.new.work.bank.now in
    let new = c.give.new.bank in
    let b = c.args.work.now.ticks.now.left in
    let l = c.do_intro.new.work.ticks.now.left in
    let w = option_map (text_of bank) c.args.written in
    let f : ℕ → Scene = λ n. scene_in bank c.args.env.now c.args.store.now c.args.goal c.args.kind vs n in
    let d = reached_done mid c.do_intro.new.store c.in_ok-reached.reached in
    let tell : ℕ → Step = λ k. step_by (store_of new c.give.new.store) (k ∷ []) in
    does_ended f c.args.goal (λ n. refl) (λ n. do_intro (f n) w) new tell (Err c.in-Err.fault) b l l d (c.in_ok-reached.ensures.answer vs)
    (does_at_once new tell (Err c.in-Err.fault) (given_to c.args.goal d) (c.in-Err.ensures.answer (c.in_ok-reached.reached.goal ∷ [])) l)
