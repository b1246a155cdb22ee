use Rattle.std.proofs.Common.{ℕ, suc, sym, []}
use Rattle.std.specs.Prelude.{option_map}
use Rattle.std.proofs.Common.{subst as along}
use Rattle.lq_terms.specs.Terms.{text_of, tree_of}
use Rattle.lq_env.specs.Environments.{env_of}
use Rattle.lq_solving.specs.Kept.{StandsIn}
use Rattle.lq_evars.specs.Places.{store_of}
use Rattle.lq_evars.proofs.Growing.{store_of-grown}
use Rattle.lq_tactics.specs.Rows.{Scene}
use Rattle.lq_tactics.specs.Primitives.{intro_on, binder_form}
use Rattle.lq_prims.specs.Binders.{binder_tree}
use Rattle.lq_prims.specs.Reaching.{reached_done}
use Rattle.lq_prims.specs.Scenes.{context_at, scene_by, scene_in}
use Rattle.lq_prims.specs.Working.{Does}
use Rattle.lq_prims.proofs.SceneLaws.{goal_grown, plain_scene}
use Rattle.lq_prims.proofs.LaterLaws.{intro_before, name_later}
use Rattle.lq_prims.proofs.IntroLaws.{intro_refused, intro_then, intro_none, form_stands}
use Rattle.lq_prims.proofs.WorkLaws.{handed_on, comes_is_given}
use Rattle.lq_prims.proofs.introducing.do_intro.Goals as goal

pub returns-in_err-form-clause-answer : goal.returns-in_err-form-clause-answer
returns-in_err-form-clause-answer g c vs =
    let bank = c.args.work.now.bank.now in
    let s = store_of bank c.args.store.now in
    handed_on c.binder_form.new.work.bank.now _ c.from_residual.result c.in_err-form.field-0.0 _ c.args.work.now.ticks.now.left c.binder_form.new.work.ticks.now.left c.from_residual.ensures.1
    (intro_refused (env_of bank c.args.env.now) s c.args.goal (context_at s c.args.goal) (tree_of bank c.args.kind) vs (option_map (text_of bank) c.args.written) c.binder_form.new.work.bank.now c.in_err-form.field-0.0
    c.args.work.now.ticks.now.left c.binder_form.new.work.ticks.now.left (c.in_err-form.ensures.answer vs))

pub introduced-requires-clause-place : goal.introduced-requires-clause-place
introduced-requires-clause-place g c = goal_grown c.args.work.now.bank.now c.binder_form.new.work.bank.now c.binder_form.ensures.grows c.args.store.now c.args.goal c.requires.placed.place

pub introduced-requires-clause-written : goal.introduced-requires-clause-written
introduced-requires-clause-written g c = (name_later c.args.work.now.bank.now c.binder_form.new.work.bank.now c.binder_form.ensures.grows c.args.written c.requires.written).0

pub introduced-requires-clause-stands : goal.introduced-requires-clause-stands
introduced-requires-clause-stands g c =
    let bank = c.args.work.now.bank.now in
    let mid = c.binder_form.new.work.bank.now in
    let s = store_of bank c.args.store.now in
    let b = c.args.work.now.ticks.now.left in
    let l = c.binder_form.new.work.ticks.now.left in
    let f : ℕ → Scene = λ n. scene_in bank c.args.env.now c.args.store.now c.args.goal c.args.kind [] n in
    along (λ z. StandsIn z (context_at z c.args.goal) (binder_tree mid c.in-Some.binder)) (sym (store_of-grown bank mid c.binder_form.ensures.grows c.args.store.now c.requires.placed.place.store))
    (along (StandsIn s (context_at s c.args.goal)) c.in-Some.ensures.1
    (form_stands (f (suc b)) (plain_scene bank c.args.env.now c.args.store.now c.args.goal c.args.kind c.requires.placed (suc b)) (tree_of mid c.in_ok-form.form)
    (comes_is_given (λ n. binder_form (f n)) b l (tree_of mid c.in_ok-form.form) (c.in_ok-form.ensures.answer []))))

pub returns-in-Some-clause-answer : goal.returns-in-Some-clause-answer
returns-in-Some-clause-answer g c vs =
    let bank = c.args.work.now.bank.now in
    let mid = c.binder_form.new.work.bank.now in
    let new = c.introduced.new.work.bank.now in
    let s = store_of bank c.args.store.now in
    let h = context_at s c.args.goal in
    let E = env_of bank c.args.env.now in
    let T = tree_of bank c.args.kind in
    let w = option_map (text_of bank) c.args.written in
    let b = c.args.work.now.ticks.now.left in
    let l = c.binder_form.new.work.ticks.now.left in
    let left = c.introduced.new.work.ticks.now.left in
    let tell = reached_done new c.introduced.new.store in
    intro_then E s c.args.goal h T vs w b l (tree_of mid c.in_ok-form.form) (c.in_ok-form.ensures.answer vs) new tell c.introduced.result left
    (along (λ z. Does new tell c.introduced.result (λ n. intro_on (scene_by E s c.args.goal h T vs n) w z) l left) (sym c.in-Some.ensures.1)
    (intro_before bank mid c.binder_form.ensures.grows c.args.store.now c.args.goal c.requires.placed.place new tell c.introduced.result E T vs l left c.args.written (binder_tree mid c.in-Some.binder) c.requires.written
    (c.introduced.ensures.answer E T vs)))

pub returns-in-None-clause-answer : goal.returns-in-None-clause-answer
returns-in-None-clause-answer g c vs =
    let bank = c.args.work.now.bank.now in
    let mid = c.binder_form.new.work.bank.now in
    let s = store_of bank c.args.store.now in
    intro_none (env_of bank c.args.env.now) s c.args.goal (context_at s c.args.goal) (tree_of bank c.args.kind) vs (option_map (text_of bank) c.args.written) c.args.work.now.ticks.now.left c.binder_form.new.work.ticks.now.left
    (tree_of mid c.in_ok-form.form) (c.in_ok-form.ensures.answer vs) mid c.in-None.ensures
