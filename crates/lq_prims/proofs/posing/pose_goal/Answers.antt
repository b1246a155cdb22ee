use Rattle.std.proofs.Common.{◌∙◌, ap₂, [], ◌∷◌, arith}
use Rattle.std.proofs.Common.{subst as along}
use Rattle.lq_trees.specs.Change.{close}
use Rattle.lq_trees.specs.Fresh.{under_let}
use Rattle.lq_trees.specs.Tree.{Context}
use Rattle.lq_trees.specs.Tree.Tree.{Let}
use Rattle.lq_trees.specs.Ticks.{done, ComesTo}
use Rattle.lq_terms.specs.Contexts.{context_of}
use Rattle.lq_terms.specs.Terms.{text_of, tree_of}
use Rattle.lq_solving.specs.Stores.{Store}
use Rattle.lq_evars.specs.Places.{store_of}
use Rattle.lq_evars.proofs.Growing.{HasStore-grown, store_of-grown}
use Rattle.lq_tactics.specs.Rows.{Done, goal_term}
use Rattle.lq_prims.specs.Building.{pose_work}
use Rattle.lq_prims.proofs.BuildLaws.{built_is}
use Rattle.lq_prims.proofs.PoseLaws.{pose_stops, pose_done}
use Rattle.lq_prims.proofs.posing.pose_goal.Goals as goal

pub round-requires-clause-name : goal.round-requires-clause-name
round-requires-clause-name g c = omega (arith, c.requires.follows.has.name, c.in-Ok.ensures.grows.names)

pub returns-in-Ok-round-clause-answer : goal.returns-in-Ok-round-clause-answer
unfolding under_let
returns-in-Ok-round-clause-answer g c s e =
    let b0 = c.args.work.now.bank.now in
    let b1 = c.new_goal_behind.new.work.bank.now in
    let b2 = c.round.new.bank in
    let s1 = c.new_goal_behind.new.store in
    let b = c.args.work.now.ticks.now.left in
    let left = c.new_goal_behind.new.work.ticks.now.left in
    let S : Store = store_of b0 c.args.store.now in
    let G : Context = context_of b0 c.args.context.now in
    let T = tree_of b0 c.args.kind in
    let x = text_of b0 c.args.name in
    let v = tree_of b0 c.args.value in
    let A = tree_of b0 c.args.type_of in
    let k = c.in-Ok.rest.goal in
    let grows = c.in-Ok.ensures.grows in
    let has = c.requires.follows.has in
    let last = built_is b2 s1 c.in-Ok-round.built (store_of b1 s1) (Let x v A (close x (goal_term k (under_let G x v A)))) (k ∷ [])
    (store_of-grown b1 b2 c.in-Ok-round.ensures.grows s1 c.in-Ok.ensures.has)
    (c.in-Ok-round.ensures.body.is ∙ ap₂ (λ y w. Let y w (tree_of b1 c.args.type_of) (tree_of b1 c.in-Ok.rest.term)) (grows.text c.args.name has.name) (grows.tree c.args.value has.body)
    ∙ ap₂ (λ B t. Let x v B t) (grows.tree c.args.type_of has.kind) c.in-Ok.ensures.term.is)
    c.in-Ok-round.ensures.goals in
    along (λ (z : Done). ComesTo (λ n. pose_work (s n) S G T x v A) b (done z left)) last
    (pose_done s S G T x v A b left (store_of b1 s1, k) (c.in-Ok.ensures.answer s e))

pub returns-in-Ok-round-clause-has : goal.returns-in-Ok-round-clause-has
returns-in-Ok-round-clause-has g c = HasStore-grown c.new_goal_behind.new.work.bank.now c.round.new.bank c.in-Ok-round.ensures.grows c.new_goal_behind.new.store c.in-Ok.ensures.has

pub returns-in-Err-clause-answer : goal.returns-in-Err-clause-answer
unfolding under_let
returns-in-Err-clause-answer g c s e =
    let b0 = c.args.work.now.bank.now in
    pose_stops s (store_of b0 c.args.store.now) (context_of b0 c.args.context.now) (tree_of b0 c.args.kind) (text_of b0 c.args.name) (tree_of b0 c.args.value) (tree_of b0 c.args.type_of) c.args.work.now.ticks.now.left
    c.new_goal_behind.new.work.ticks.now.left c.new_goal_behind.new.work.bank.now c.in-Err.fault (c.in-Err.ensures.answer s e)
