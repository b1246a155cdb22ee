use Rattle.std.proofs.Common.{◌∙◌, ap, ap₂, [], ◌∷◌, Ok, Err}
use Rattle.std.proofs.Common.{subst as along}
use Rattle.std.specs.Prelude.{codes}
use Rattle.lq_trees.specs.Tree.{Context}
use Rattle.lq_trees.specs.Tree.Tree.{App, Ind, Elim}
use Rattle.lq_trees.specs.Ticks.{done, ComesTo}
use Rattle.lq_terms.specs.Contexts.{context_of}
use Rattle.lq_terms.specs.Terms.{tree_of}
use Rattle.lq_solving.specs.Stores.{Store}
use Rattle.lq_evars.specs.Places.{store_of}
use Rattle.lq_evars.proofs.Growing.{HasStore-grown, store_of-grown}
use Rattle.lq_tactics.specs.Rows.{Done, goal_term, new_goal}
use Rattle.lq_prims.specs.declared.new_goals.NewGoal.{NewGoal}
use Rattle.lq_prims.specs.Building.{false_work, from_false}
use Rattle.lq_prims.proofs.MakingLaws.{in_grown, leaf_in, same_store, same_context}
use Rattle.lq_prims.proofs.BuildLaws.{false_stops, false_done, goal_as, built_is}
use Rattle.lq_prims.proofs.exfalso.false_goal.Goals as goal

pub new_goal_term-requires-clause-place : goal.new_goal_term-requires-clause-place
new_goal_term-requires-clause-place g c = in_grown c.args.work.now.bank.now c.prepared.new.bank c.in-Ok.ensures.grows c.args.store.now c.args.context.now c.requires.place

pub new_goal_term-requires-clause-kind : goal.new_goal_term-requires-clause-kind
new_goal_term-requires-clause-kind g c =
    leaf_in c.args.work.now.bank.now c.prepared.new.bank c.in-Ok.ensures.grows c.args.store.now c.args.context.now c.requires.place (Ind (codes "False")) tt c.in-Ok.terms.0 c.in-Ok.ensures.falsehood

pub returns-in-Ok-proved-clause-answer : goal.returns-in-Ok-proved-clause-answer
returns-in-Ok-proved-clause-answer g c s e =
    let b0 = c.args.work.now.bank.now in
    let b1 = c.prepared.new.bank in
    let b2 = c.new_goal_term.new.work.bank.now in
    let p = c.args.store.now in
    let s2 = c.new_goal_term.new.store in
    let hs = c.args.context.now in
    let g1 = c.in-Ok.ensures.grows in
    let b = c.args.work.now.ticks.now.left in
    let l = c.new_goal_term.new.work.ticks.now.left in
    let T = tree_of b0 c.args.kind in
    let S : Store = store_of b0 p in
    let G : Context = context_of b0 hs in
    let k = c.in-Ok-new_goal_term.inside.goal in
    let first : ComesTo (λ n. new_goal (s n) S G (Ind (codes "False"))) b (done (store_of b2 s2, k) l) =
    goal_as b2 (λ (z : NewGoal). (store_of b2 s2, z.goal)) (Ok c.in-Ok-new_goal_term.inside) s (store_of b1 p) S (context_of b1 hs) G (tree_of b1 c.in-Ok.terms.0) (Ind (codes "False")) b l
    (same_store b0 b1 g1 p hs c.requires.place) (same_context b0 b1 g1 p hs c.requires.place) c.in-Ok.ensures.falsehood.is (c.in-Ok-new_goal_term.ensures.answer s e) in
    let b4 = c.proved.new.bank in
    let f = c.in-Ok-new_goal_term.ensures.term in
    let m = c.in-Ok.ensures.motive in
    let last = built_is b4 s2 c.in-Ok-proved.built (store_of b2 s2) (from_false c.args.sort T (goal_term k G)) (k ∷ [])
    (store_of-grown b2 b4 c.in-Ok-proved.ensures.grows s2 c.in-Ok-new_goal_term.ensures.place.store)
    (c.in-Ok-proved.ensures.body.is ∙ ap₂ (λ x y. App (App (Elim (codes "False") c.args.sort) x) y) (c.in-Ok-new_goal_term.ensures.grows.tree c.in-Ok.terms.1 m.has ∙ m.is) (f.is ∙ ap (goal_term k) (same_context b0 b1 g1 p hs c.requires.place)))
    c.in-Ok-proved.ensures.goals in
    along (λ (z : Done). ComesTo (λ n. false_work (s n) S G T c.args.sort) b (done z l)) last (false_done s S G T c.args.sort b l (store_of b2 s2, k) first)

pub returns-in-Ok-proved-clause-has : goal.returns-in-Ok-proved-clause-has
returns-in-Ok-proved-clause-has g c =
    HasStore-grown c.new_goal_term.new.work.bank.now c.proved.new.bank c.in-Ok-proved.ensures.grows c.new_goal_term.new.store c.in-Ok-new_goal_term.ensures.place.store

pub returns-in-Err-new_goal_term-clause-answer : goal.returns-in-Err-new_goal_term-clause-answer
returns-in-Err-new_goal_term-clause-answer g c s e =
    let b0 = c.args.work.now.bank.now in
    let b1 = c.prepared.new.bank in
    let b2 = c.new_goal_term.new.work.bank.now in
    let p = c.args.store.now in
    let s2 = c.new_goal_term.new.store in
    let hs = c.args.context.now in
    let g1 = c.in-Ok.ensures.grows in
    let b = c.args.work.now.ticks.now.left in
    let l = c.new_goal_term.new.work.ticks.now.left in
    let T = tree_of b0 c.args.kind in
    let S : Store = store_of b0 p in
    let G : Context = context_of b0 hs in
    false_stops s S G T c.args.sort b l b2 c.in-Err-new_goal_term.fault
    (goal_as b2 (λ (z : NewGoal). (store_of b2 s2, z.goal)) (Err c.in-Err-new_goal_term.fault) s (store_of b1 p) S (context_of b1 hs) G (tree_of b1 c.in-Ok.terms.0) (Ind (codes "False")) b l
    (same_store b0 b1 g1 p hs c.requires.place) (same_context b0 b1 g1 p hs c.requires.place) c.in-Ok.ensures.falsehood.is (c.in-Err-new_goal_term.ensures.answer s e))
