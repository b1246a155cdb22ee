use Rattle.std.proofs.Common.{◌≡◌, ◌∙◌, refl, ap, ap₂, [], ◌∷◌, Ok, Err}
use Rattle.std.proofs.Common.{subst as along}
use Rattle.lq_trees.specs.Tree.Tree.{Prod, App}
use Rattle.lq_trees.specs.Ticks.{done, ComesTo}
use Rattle.lq_terms.specs.Contexts.{context_of}
use Rattle.lq_terms.specs.Terms.{tree_of}
use Rattle.lq_terms.proofs.Growth.{Grows-trans}
use Rattle.lq_evars.specs.Places.{store_of}
use Rattle.lq_evars.proofs.Growing.{HasStore-grown, store_of-grown, context_grown}
use Rattle.lq_trees.specs.Tree.{Context}
use Rattle.lq_solving.specs.Stores.{Store}
use Rattle.lq_tactics.specs.Rows.{Done, goal_term, new_goal}
use Rattle.lq_prims.specs.declared.new_goals.NewGoal.{NewGoal}
use Rattle.lq_prims.specs.Building.{cut_work}
use Rattle.lq_prims.proofs.MakingLaws.{in_grown, term_grown, same_store, same_context, arrow_in}
use Rattle.lq_prims.proofs.BuildLaws.{cut_refused, cut_stops, cut_done, goal_as, built_is}
use Rattle.lq_prims.proofs.cutting.cut_goals.Goals as goal

pub new_goal_term-requires-clause-place : goal.new_goal_term-requires-clause-place
new_goal_term-requires-clause-place g c = in_grown c.args.work.now.bank.now c.arrow.new.bank c.in-Ok.ensures.grows c.args.store.now c.args.context.now c.requires.place

pub new_goal_term-requires-clause-kind : goal.new_goal_term-requires-clause-kind
new_goal_term-requires-clause-kind g c =
    arrow_in c.args.work.now.bank.now c.arrow.new.bank c.in-Ok.ensures.grows c.args.store.now c.args.context.now c.requires.place c.args.term c.args.kind c.requires.term c.requires.kind c.in-Ok.product c.in-Ok.ensures.is

pub new_goal_term-requires-in-Ok-new_goal_term-clause-kind : goal.new_goal_term-requires-in-Ok-new_goal_term-clause-kind
new_goal_term-requires-in-Ok-new_goal_term-clause-kind g c =
    c.in-Ok-new_goal_term.ensures.later c.args.term (term_grown c.args.work.now.bank.now c.arrow.new.bank c.in-Ok.ensures.grows c.args.store.now c.args.context.now c.requires.place c.args.term c.requires.term)

pub returns-in-Ok-applied-clause-answer : goal.returns-in-Ok-applied-clause-answer
returns-in-Ok-applied-clause-answer g c s e =
    let b0 = c.args.work.now.bank.now in
    let b1 = c.arrow.new.bank in
    let b2 = c.new_goal_term.new.work.bank.now in
    let p = c.args.store.now in
    let s2 = c.new_goal_term.new.store in
    let hs = c.args.context.now in
    let g1 = c.in-Ok.ensures.grows in
    let b = c.args.work.now.ticks.now.left in
    let l = c.new_goal_term.new.work.ticks.now.left in
    let T = tree_of b0 c.args.kind in
    let t = tree_of b0 c.args.term in
    let k = c.in-Ok-new_goal_term.function.goal in
    let S : Store = store_of b0 p in
    let G : Context = context_of b0 hs in
    let first : ComesTo (λ n. new_goal (s n) S G (Prod [] t T)) b (done (store_of b2 s2, k) l) =
    goal_as b2 (λ (z : NewGoal). (store_of b2 s2, z.goal)) (Ok c.in-Ok-new_goal_term.function) s (store_of b1 p) S (context_of b1 hs) G (tree_of b1 c.in-Ok.product) (Prod [] t T) b l
    (same_store b0 b1 g1 p hs c.requires.place) (same_context b0 b1 g1 p hs c.requires.place) c.in-Ok.ensures.is.is (c.in-Ok-new_goal_term.ensures.answer s e) in
    let g2 = c.in-Ok-new_goal_term.ensures.grows in
    let at1 = in_grown b0 b1 g1 p hs c.requires.place in
    let same2 : context_of b2 hs ≡ G = (context_grown b1 b2 g2 hs at1.has).0 ∙ same_context b0 b1 g1 p hs c.requires.place in
    let t1 = term_grown b0 b1 g1 p hs c.requires.place c.args.term c.requires.term in
    let term2 : tree_of b2 c.args.term ≡ t = g2.tree c.args.term t1.has ∙ g1.tree c.args.term c.requires.term.has in
    let b3 = c.new_goal_term-in-Ok-new_goal_term.new.work.bank.now in
    let s3 = c.new_goal_term-in-Ok-new_goal_term.new.store in
    let left = c.new_goal_term-in-Ok-new_goal_term.new.work.ticks.now.left in
    let j = c.in-Ok-new_goal_term-2.argument.goal in
    let second : ComesTo (λ n. new_goal (s n) (store_of b2 s2) G t) l (done (store_of b3 s3, j) left) =
    goal_as b3 (λ (z : NewGoal). (store_of b3 s3, z.goal)) (Ok c.in-Ok-new_goal_term-2.argument) s (store_of b2 s2) (store_of b2 s2) (context_of b2 hs) G (tree_of b2 c.args.term) t l left
    refl same2 term2 (c.in-Ok-new_goal_term-2.ensures.answer s e) in
    let b4 = c.applied.new.bank in
    let f = c.in-Ok-new_goal_term.ensures.term in
    let a = c.in-Ok-new_goal_term-2.ensures.term in
    let last = built_is b4 s3 c.in-Ok-applied.built (store_of b3 s3) (App (goal_term k G) (goal_term j G)) (k ∷ j ∷ [])
    (store_of-grown b3 b4 c.in-Ok-applied.ensures.grows s3 c.in-Ok-new_goal_term-2.ensures.place.store)
    (c.in-Ok-applied.ensures.body.is ∙ ap₂ App (c.in-Ok-new_goal_term-2.ensures.grows.tree c.in-Ok-new_goal_term.function.term f.has ∙ f.is ∙ ap (goal_term k) (same_context b0 b1 g1 p hs c.requires.place)) (a.is ∙ ap (goal_term j) same2))
    c.in-Ok-applied.ensures.goals in
    along (λ (z : Done). ComesTo (λ n. cut_work (s n) S G T t) b (done z left)) last
    (cut_done s S G T t b l (store_of b2 s2, k) first left (store_of b3 s3, j) second)

pub returns-in-Ok-applied-clause-has : goal.returns-in-Ok-applied-clause-has
returns-in-Ok-applied-clause-has g c =
    HasStore-grown c.new_goal_term-in-Ok-new_goal_term.new.work.bank.now c.applied.new.bank c.in-Ok-applied.ensures.grows c.new_goal_term-in-Ok-new_goal_term.new.store c.in-Ok-new_goal_term-2.ensures.place.store

pub returns-in-Ok-applied-clause-grows : goal.returns-in-Ok-applied-clause-grows
returns-in-Ok-applied-clause-grows g c =
    let b0 = c.args.work.now.bank.now in
    let b1 = c.arrow.new.bank in
    let b2 = c.new_goal_term.new.work.bank.now in
    let b3 = c.new_goal_term-in-Ok-new_goal_term.new.work.bank.now in
    Grows-trans b0 b1 c.applied.new.bank c.in-Ok.ensures.grows (Grows-trans b1 b2 c.applied.new.bank c.in-Ok-new_goal_term.ensures.grows (Grows-trans b2 b3 c.applied.new.bank c.in-Ok-new_goal_term-2.ensures.grows c.in-Ok-applied.ensures.grows))

pub returns-in-Err-applied-clause-grows : goal.returns-in-Err-applied-clause-grows
returns-in-Err-applied-clause-grows g c =
    let b0 = c.args.work.now.bank.now in
    let b1 = c.arrow.new.bank in
    let b2 = c.new_goal_term.new.work.bank.now in
    let b3 = c.new_goal_term-in-Ok-new_goal_term.new.work.bank.now in
    Grows-trans b0 b1 c.applied.new.bank c.in-Ok.ensures.grows (Grows-trans b1 b2 c.applied.new.bank c.in-Ok-new_goal_term.ensures.grows (Grows-trans b2 b3 c.applied.new.bank c.in-Ok-new_goal_term-2.ensures.grows c.in-Err-applied.ensures.grows))

pub returns-in-Err-new_goal_term-2-clause-answer : goal.returns-in-Err-new_goal_term-2-clause-answer
returns-in-Err-new_goal_term-2-clause-answer g c s e =
    let b0 = c.args.work.now.bank.now in
    let b1 = c.arrow.new.bank in
    let b2 = c.new_goal_term.new.work.bank.now in
    let p = c.args.store.now in
    let s2 = c.new_goal_term.new.store in
    let hs = c.args.context.now in
    let g1 = c.in-Ok.ensures.grows in
    let b = c.args.work.now.ticks.now.left in
    let l = c.new_goal_term.new.work.ticks.now.left in
    let T = tree_of b0 c.args.kind in
    let t = tree_of b0 c.args.term in
    let k = c.in-Ok-new_goal_term.function.goal in
    let S : Store = store_of b0 p in
    let G : Context = context_of b0 hs in
    let first : ComesTo (λ n. new_goal (s n) S G (Prod [] t T)) b (done (store_of b2 s2, k) l) =
    goal_as b2 (λ (z : NewGoal). (store_of b2 s2, z.goal)) (Ok c.in-Ok-new_goal_term.function) s (store_of b1 p) S (context_of b1 hs) G (tree_of b1 c.in-Ok.product) (Prod [] t T) b l
    (same_store b0 b1 g1 p hs c.requires.place) (same_context b0 b1 g1 p hs c.requires.place) c.in-Ok.ensures.is.is (c.in-Ok-new_goal_term.ensures.answer s e) in
    let g2 = c.in-Ok-new_goal_term.ensures.grows in
    let at1 = in_grown b0 b1 g1 p hs c.requires.place in
    let same2 : context_of b2 hs ≡ G = (context_grown b1 b2 g2 hs at1.has).0 ∙ same_context b0 b1 g1 p hs c.requires.place in
    let t1 = term_grown b0 b1 g1 p hs c.requires.place c.args.term c.requires.term in
    let term2 : tree_of b2 c.args.term ≡ t = g2.tree c.args.term t1.has ∙ g1.tree c.args.term c.requires.term.has in
    let b3 = c.new_goal_term-in-Ok-new_goal_term.new.work.bank.now in
    let s3 = c.new_goal_term-in-Ok-new_goal_term.new.store in
    let left = c.new_goal_term-in-Ok-new_goal_term.new.work.ticks.now.left in
    let j = c.in-Err-new_goal_term-2.fault in
    cut_stops s S G T t b l (store_of b2 s2, k) first b3 j left
    (goal_as b3 (λ (z : NewGoal). (store_of b3 s3, z.goal)) (Err j) s (store_of b2 s2) (store_of b2 s2) (context_of b2 hs) G (tree_of b2 c.args.term) t l left refl same2 term2 (c.in-Err-new_goal_term-2.ensures.answer s e))

pub returns-in-Err-new_goal_term-clause-answer : goal.returns-in-Err-new_goal_term-clause-answer
returns-in-Err-new_goal_term-clause-answer g c s e =
    let b0 = c.args.work.now.bank.now in
    let b1 = c.arrow.new.bank in
    let p = c.args.store.now in
    let hs = c.args.context.now in
    let g1 = c.in-Ok.ensures.grows in
    let b = c.args.work.now.ticks.now.left in
    let l = c.new_goal_term.new.work.ticks.now.left in
    cut_refused s (store_of b0 p) (context_of b0 hs) (tree_of b0 c.args.kind) (tree_of b0 c.args.term) b c.new_goal_term.new.work.bank.now c.in-Err-new_goal_term.fault l
    (goal_as c.new_goal_term.new.work.bank.now (λ (z : NewGoal). (store_of c.new_goal_term.new.work.bank.now c.new_goal_term.new.store, z.goal)) (Err c.in-Err-new_goal_term.fault) s
    (store_of b1 p) (store_of b0 p) (context_of b1 hs) (context_of b0 hs) (tree_of b1 c.in-Ok.product) (Prod [] (tree_of b0 c.args.term) (tree_of b0 c.args.kind)) b l
    (same_store b0 b1 g1 p hs c.requires.place) (same_context b0 b1 g1 p hs c.requires.place) c.in-Ok.ensures.is.is (c.in-Err-new_goal_term.ensures.answer s e))
