use Rattle.std.proofs.Common.{suc, sym, refl, Some, []}
use Rattle.std.proofs.Common.{subst as along}
use Rattle.lq_trees.specs.Tree.{Tree}
use Rattle.lq_terms.specs.declared.nodes.TermId.{TermId}
use Rattle.lq_terms.specs.Terms.{tree_of}
use Rattle.lq_env.specs.Environments.{env_of}
use Rattle.lq_env.proofs.Grown.{env_of-grown}
use Rattle.lq_solving.specs.Kept.{StandsIn}
use Rattle.lq_evars.specs.Places.{store_of}
use Rattle.lq_evars.proofs.Growing.{store_of-grown}
use Rattle.lq_tactics.specs.Rows.{Done, done_by}
use Rattle.lq_tactics.specs.Primitives.{reflexive}
use Rattle.lq_prims.specs.Scenes.{context_at, scene_by, form_work}
use Rattle.lq_prims.specs.Working.{Does, Refuses}
use Rattle.lq_trees.specs.Ticks.{done, ComesTo}
use Rattle.lq_prims.proofs.SceneLaws.{goal_context, site_of, kind_stands, goal_grown, declared_grown, plain_scene}
use Rattle.lq_prims.proofs.ReflexRows.{form_refused, form_sides, equality_does, no_equality}
use Rattle.lq_prims.proofs.WorkLaws.{handed_on}
use Rattle.lq_prims.proofs.reflecting.do_reflexivity.Goals as goal

pub head-requires-clause-site : goal.head-requires-clause-site
head-requires-clause-site g c =
    site_of c.args.work.now.bank.now c.args.env.now c.args.store.now c.args.goal c.requires.placed.declared c.requires.placed.place c.context.result.now
    (goal_context c.args.work.now.bank.now c.args.store.now c.args.goal c.requires.placed.place c.context.result.now (λ v e. c.context.ensures.place v e))

pub head-requires-clause-term : goal.head-requires-clause-term
head-requires-clause-term g c =
    along (λ z. StandsIn (store_of c.args.work.now.bank.now c.args.store.now) z (tree_of c.args.work.now.bank.now c.args.kind))
    (sym (goal_context c.args.work.now.bank.now c.args.store.now c.args.goal c.requires.placed.place c.context.result.now (λ v e. c.context.ensures.place v e)).is)
    (kind_stands c.args.work.now.bank.now c.args.env.now c.args.store.now c.args.goal c.args.kind c.requires.placed)

pub returns-in_err-form-clause-answer : goal.returns-in_err-form-clause-answer
returns-in_err-form-clause-answer g c vs =
    let bank = c.args.work.now.bank.now in
    let s = store_of bank c.args.store.now in
    let E = env_of bank c.args.env.now in
    let T = tree_of bank c.args.kind in
    let new = c.head.new.work.bank.now in
    let b = c.args.work.now.ticks.now.left in
    let left = c.head.new.work.ticks.now.left in
    handed_on new _ c.from_residual.result c.in_err-form.field-0.0 _ b left c.from_residual.ensures.1
    (form_refused E s c.args.goal (context_at s c.args.goal) T vs new c.in_err-form.field-0.0 b left
    (along (λ z. Refuses new c.in_err-form.field-0.0 (form_work E s z T) b left)
    (goal_context bank c.args.store.now c.args.goal c.requires.placed.place c.context.result.now (λ v e. c.context.ensures.place v e)).is c.in_err-form.ensures.answer))

pub reflexive-requires-clause-declared : goal.reflexive-requires-clause-declared
reflexive-requires-clause-declared g c = declared_grown c.args.work.now.bank.now c.head.new.work.bank.now c.in_ok-form.ensures.grows c.args.env.now c.requires.placed.declared

pub reflexive-requires-clause-place : goal.reflexive-requires-clause-place
reflexive-requires-clause-place g c = goal_grown c.args.work.now.bank.now c.head.new.work.bank.now c.in_ok-form.ensures.grows c.args.store.now c.args.goal c.requires.placed.place

pub reflexive-requires-clause-left : goal.reflexive-requires-clause-left
reflexive-requires-clause-left g c =
    let bank = c.args.work.now.bank.now in
    let mid = c.head.new.work.bank.now in
    let s = store_of bank c.args.store.now in
    let E = env_of bank c.args.env.now in
    let T = tree_of bank c.args.kind in
    let b = c.args.work.now.ticks.now.left in
    let l = c.head.new.work.ticks.now.left in
    let t = tree_of mid c.in_ok-form.form in
    along (λ z. StandsIn z (context_at z c.args.goal) (tree_of mid c.in-Some.equality.left)) (sym (store_of-grown bank mid c.in_ok-form.ensures.grows c.args.store.now c.requires.placed.place.store))
    (form_sides E s c.args.goal (context_at s c.args.goal) T [] b l t
    (along (λ z. ComesTo (form_work E s z T) b (done t l))
    (goal_context bank c.args.store.now c.args.goal c.requires.placed.place c.context.result.now (λ v e. c.context.ensures.place v e)).is c.in_ok-form.ensures.answer)
    (plain_scene bank c.args.env.now c.args.store.now c.args.goal c.args.kind c.requires.placed (suc b))
    (tree_of mid c.in-Some.equality.kind, tree_of mid c.in-Some.equality.left, tree_of mid c.in-Some.equality.right) c.in-Some.ensures.1).1

pub reflexive-requires-clause-right : goal.reflexive-requires-clause-right
reflexive-requires-clause-right g c =
    let bank = c.args.work.now.bank.now in
    let mid = c.head.new.work.bank.now in
    let s = store_of bank c.args.store.now in
    let E = env_of bank c.args.env.now in
    let T = tree_of bank c.args.kind in
    let b = c.args.work.now.ticks.now.left in
    let l = c.head.new.work.ticks.now.left in
    let t = tree_of mid c.in_ok-form.form in
    along (λ z. StandsIn z (context_at z c.args.goal) (tree_of mid c.in-Some.equality.right)) (sym (store_of-grown bank mid c.in_ok-form.ensures.grows c.args.store.now c.requires.placed.place.store))
    (form_sides E s c.args.goal (context_at s c.args.goal) T [] b l t
    (along (λ z. ComesTo (form_work E s z T) b (done t l))
    (goal_context bank c.args.store.now c.args.goal c.requires.placed.place c.context.result.now (λ v e. c.context.ensures.place v e)).is c.in_ok-form.ensures.answer)
    (plain_scene bank c.args.env.now c.args.store.now c.args.goal c.args.kind c.requires.placed (suc b))
    (tree_of mid c.in-Some.equality.kind, tree_of mid c.in-Some.equality.left, tree_of mid c.in-Some.equality.right) c.in-Some.ensures.1).2

pub returns-in-Some-clause-answer : goal.returns-in-Some-clause-answer
returns-in-Some-clause-answer g c vs =
    let bank = c.args.work.now.bank.now in
    let mid = c.head.new.work.bank.now in
    let new = c.reflexive.new.work.bank.now in
    let s = store_of bank c.args.store.now in
    let E = env_of bank c.args.env.now in
    let T = tree_of bank c.args.kind in
    let b = c.args.work.now.ticks.now.left in
    let l = c.head.new.work.ticks.now.left in
    let left = c.reflexive.new.work.ticks.now.left in
    let t = tree_of mid c.in_ok-form.form in
    let k = c.args.goal in
    let tell : TermId → Done = λ u. done_by (store_of new c.reflexive.new.store) (tree_of new u) [] in
    let e : Tree × Tree × Tree = (tree_of mid c.in-Some.equality.kind, tree_of mid c.in-Some.equality.left, tree_of mid c.in-Some.equality.right) in
    equality_does E s k (context_at s k) T vs b l t
    (along (λ z. ComesTo (form_work E s z T) b (done t l))
    (goal_context bank c.args.store.now k c.requires.placed.place c.context.result.now (λ v e. c.context.ensures.place v e)).is c.in_ok-form.ensures.answer)
    new tell c.reflexive.result left e c.in-Some.ensures.1
    (along (λ z. Does new tell c.reflexive.result (λ n. reflexive (scene_by E z k (context_at z k) T vs n) t (Some e)) l left)
    (store_of-grown bank mid c.in_ok-form.ensures.grows c.args.store.now c.requires.placed.place.store)
    (along (λ F. Does new tell c.reflexive.result (λ n. reflexive (scene_by F (store_of mid c.args.store.now) k (context_at (store_of mid c.args.store.now) k) T vs n) t (Some e)) l left)
    (env_of-grown bank mid c.in_ok-form.ensures.grows c.args.env.now c.requires.placed.declared.env) (c.reflexive.ensures.answer T t vs)))

pub returns-in-None-clause-answer : goal.returns-in-None-clause-answer
returns-in-None-clause-answer g c vs =
    let bank = c.args.work.now.bank.now in
    let mid = c.head.new.work.bank.now in
    let s = store_of bank c.args.store.now in
    let E = env_of bank c.args.env.now in
    let T = tree_of bank c.args.kind in
    let b = c.args.work.now.ticks.now.left in
    let l = c.head.new.work.ticks.now.left in
    let t = tree_of mid c.in_ok-form.form in
    no_equality E s c.args.goal (context_at s c.args.goal) T vs b l t
    (along (λ z. ComesTo (form_work E s z T) b (done t l))
    (goal_context bank c.args.store.now c.args.goal c.requires.placed.place c.context.result.now (λ v e. c.context.ensures.place v e)).is c.in_ok-form.ensures.answer)
    mid c.in_ok-form.form c.in_ok-form.ensures.has refl c.in-None.ensures
