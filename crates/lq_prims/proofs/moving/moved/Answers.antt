use Rattle.std.proofs.Common.{ℕ, suc, [], ◌∷◌}
use Rattle.std.proofs.Common.{subst as along}
use Rattle.std.specs.Prelude.{option_map}
use Rattle.lq_terms.specs.Terms.{tree_of, text_of}
use Rattle.lq_env.specs.Environments.{env_of}
use Rattle.lq_evars.specs.Places.{store_of}
use Rattle.lq_evars.proofs.Growing.{store_of-grown}
use Rattle.lq_tactics.specs.Rows.{Scene, ended}
use Rattle.lq_tactics.specs.Primitives.{do_intro}
use Rattle.lq_prims.specs.Scenes.{context_at, scene_by, scene_in, step_by}
use Rattle.lq_prims.specs.Working.{Does}
use Rattle.lq_prims.proofs.SceneLaws.{declared_grown, plain_scene}
use Rattle.lq_prims.proofs.WorkLaws.{comes_is_given}
use Rattle.lq_prims.proofs.MoveLaws.{step_refused, scene_stops, step_goes_on, moves_refused, goal_inside}
use Rattle.lq_prims.proofs.moving.moved.Goals as goal

pub returns-in_err-goal-clause-answer : goal.returns-in_err-goal-clause-answer
returns-in_err-goal-clause-answer g c vs =
    let bank = c.args.work.now.bank.now in
    let mid = c.intro.new.work.bank.now in
    let s = store_of bank c.args.store.now in
    let E = env_of bank c.args.env.now in
    let T = tree_of bank c.args.place.kind in
    let w = option_map (text_of bank) c.args.written in
    let b = c.args.work.now.ticks.now.left in
    let l = c.intro.new.work.ticks.now.left in
    let k = c.args.place.goal in
    moves_refused mid E c.intro.new.store vs c.from_residual.result c.in_err-goal.field-0.0 _ w b l c.from_residual.ensures.1
    (λ next. step_refused E s k (context_at s k) T vs w next mid c.in_err-goal.field-0.0 b l (c.in_err-goal.ensures.answer vs))

pub goal_kind-requires : goal.goal_kind-requires
goal_kind-requires g c =
    let bank = c.args.work.now.bank.now in
    let mid = c.intro.new.work.bank.now in
    let s = store_of bank c.args.store.now in
    let E = env_of bank c.args.env.now in
    let T = tree_of bank c.args.place.kind in
    let w = option_map (text_of bank) c.args.written in
    let b = c.args.work.now.ticks.now.left in
    let l = c.intro.new.work.ticks.now.left in
    let k = c.args.place.goal in
    let f : ℕ → Scene = λ n. scene_in bank c.args.env.now c.args.store.now k c.args.place.kind [] n in
    record {
      store = c.in_ok-goal.ensures.has;
      kept = c.in_ok-goal.ensures.kept;
      goal = goal_inside mid c.intro.new.store (f (suc b)) w c.in_ok-goal.goal (plain_scene bank c.args.env.now c.args.store.now k c.args.place.kind c.requires.placed (suc b)) (c.has_room.ensures bank c.requires.placed.place)
          (comes_is_given (λ n. ended (f n) (do_intro (f n) w)) b l (step_by (store_of mid c.intro.new.store) (c.in_ok-goal.goal ∷ [])) (c.in_ok-goal.ensures.answer []));
    }

pub returns-in-Ok-clause-answer : goal.returns-in-Ok-clause-answer
returns-in-Ok-clause-answer g c vs next late tell q left h =
    let bank = c.args.work.now.bank.now in
    let mid = c.intro.new.work.bank.now in
    let s = store_of bank c.args.store.now in
    let E = env_of bank c.args.env.now in
    let T = tree_of bank c.args.place.kind in
    let w = option_map (text_of bank) c.args.written in
    let b = c.args.work.now.ticks.now.left in
    let l = c.intro.new.work.ticks.now.left in
    let k = c.args.place.goal in
    let new = c.goal_kind.new.bank in
    let s1 = store_of mid c.intro.new.store in
    let j = c.in_ok-goal.goal in
    step_goes_on E s k (context_at s k) T vs w next s1 j b l (c.in_ok-goal.ensures.answer vs) (λ n. scene_by E s1 j (context_at s1 j) (tree_of new c.in-Ok.kind) vs n) (c.in-Ok.ensures.answer E vs) late tell q left
    (along (λ z. Does late tell q (λ n. next n (scene_by E z j (context_at z j) (tree_of new c.in-Ok.kind) vs n)) l left) (store_of-grown mid new c.in-Ok.ensures.grows c.intro.new.store c.in_ok-goal.ensures.has) h)

pub returns-in-Ok-clause-placed : goal.returns-in-Ok-clause-placed
returns-in-Ok-clause-placed g c =
    c.in-Ok.ensures.placed c.args.env.now (declared_grown c.args.work.now.bank.now c.intro.new.work.bank.now c.in_ok-goal.ensures.grows c.args.env.now c.requires.placed.declared)

pub returns-in-Err-clause-answer : goal.returns-in-Err-clause-answer
returns-in-Err-clause-answer g c vs next =
    let bank = c.args.work.now.bank.now in
    let mid = c.intro.new.work.bank.now in
    let s = store_of bank c.args.store.now in
    let E = env_of bank c.args.env.now in
    let T = tree_of bank c.args.place.kind in
    let w = option_map (text_of bank) c.args.written in
    let b = c.args.work.now.ticks.now.left in
    let l = c.intro.new.work.ticks.now.left in
    let k = c.args.place.goal in
    scene_stops E s k (context_at s k) T vs w next (store_of mid c.intro.new.store) c.in_ok-goal.goal b l (c.in_ok-goal.ensures.answer vs) c.goal_kind.new.bank c.in-Err.fault (c.in-Err.ensures.answer E vs l)
