use Rattle.std.proofs.Common.{◌≡◌, ◌∙◌, refl, sym, ap, ap₂, [], ◌∷◌, ◌<◌, length, false, None, Ok, Err, arith}
use Rattle.std.proofs.Common.{subst as along}
use Rattle.lq_trees.specs.Change.{close}
use Rattle.lq_trees.specs.Fresh.{under}
use Rattle.lq_trees.specs.Tree.{Context}
use Rattle.lq_trees.specs.Tree.Tree.{App, Lam}
use Rattle.lq_trees.specs.Ticks.{done, ComesTo}
use Rattle.lq_terms.specs.Contexts.{context_of}
use Rattle.lq_terms.specs.Terms.{text_of, tree_of}
use Rattle.lq_evars.specs.Places.{store_of}
use Rattle.lq_evars.proofs.Growing.{HasStore-grown, store_of-grown, context_grown}
use Rattle.lq_trees.specs.Fresh.{is_listed}
use Rattle.lq_solving.specs.Stores.{Store, names_in}
use Rattle.lq_tactics.specs.Rows.{Done, goal_term, new_goal}
use Rattle.lq_prims.specs.declared.new_goals.NewGoal.{NewGoal}
use Rattle.lq_prims.specs.Scenes.{behind}
use Rattle.lq_prims.specs.Building.{assert_work}
use Rattle.lq_prims.proofs.BuildLaws.{built_is, goal_as}
use Rattle.lq_prims.proofs.AssertLaws.{assert_refused, assert_stops, assert_done}
use Rattle.lq_prims.proofs.asserting.assert_goals.Goals as goal

pub new_goal_behind-requires-clause-follows : goal.new_goal_behind-requires-clause-follows
new_goal_behind-requires-clause-follows g c =
    let b0 = c.args.work.now.bank.now in
    let b1 = c.new_goal_term.new.work.bank.now in
    let grows = c.in-Ok.ensures.grows in
    let t = c.in-Ok.ensures.later c.args.term c.requires.term in
    record {
      has = record { name = omega (arith, c.requires.name, grows.names); body = tt; kind = t.has };
      new = along (λ z. is_listed (names_in z) (text_of b1 c.args.name) ≡ false) (sym (context_grown b0 b1 grows c.args.context.now c.requires.place.has).0)
          (along (λ z. is_listed (names_in (context_of b0 c.args.context.now)) z ≡ false) (sym (grows.text c.args.name c.requires.name)) c.requires.new);
      body = tt;
      kind = t.stands;
    }

pub returns-in-Ok-applied-clause-answer : goal.returns-in-Ok-applied-clause-answer
unfolding under
returns-in-Ok-applied-clause-answer g c s e =
    let b0 = c.args.work.now.bank.now in
    let b1 = c.new_goal_term.new.work.bank.now in
    let b2 = c.new_goal_behind.new.work.bank.now in
    let b3 = c.applied.new.bank in
    let s1 = c.new_goal_term.new.store in
    let s2 = c.new_goal_behind.new.store in
    let b = c.args.work.now.ticks.now.left in
    let l = c.new_goal_term.new.work.ticks.now.left in
    let left = c.new_goal_behind.new.work.ticks.now.left in
    let g1 = c.in-Ok.ensures.grows in
    let g2 = c.in-Ok-new_goal_behind.ensures.grows in
    let S : Store = store_of b0 c.args.store.now in
    let G : Context = context_of b0 c.args.context.now in
    let T = tree_of b0 c.args.kind in
    let A = tree_of b0 c.args.term in
    let x = text_of b0 c.args.name in
    let k = c.in-Ok.argument.goal in
    let j = c.in-Ok-new_goal_behind.rest.goal in
    let same : context_of b1 c.args.context.now ≡ G = (context_grown b0 b1 g1 c.args.context.now c.requires.place.has).0 in
    let name = g1.text c.args.name c.requires.name in
    let kind = g1.tree c.args.term c.requires.term.has in
    let name_has : c.args.name.place < length b1.names = omega (arith, c.requires.name, g1.names) in
    let kind_has = (c.in-Ok.ensures.later c.args.term c.requires.term).has in
    let hypothesis : record { name = text_of b1 c.args.name; body = None; kind = tree_of b1 c.args.term } ≡ record { name = x; body = None; kind = A } = ap₂ (λ y B. record { name = y; body = None; kind = B }) name kind in
    let second : ComesTo (λ n. new_goal (s n) (store_of b1 s1) (under G x A) T) l (done (store_of b2 s2, j) left) =
    goal_as b2 (λ (z : NewGoal). (store_of b2 s2, z.goal)) (Ok c.in-Ok-new_goal_behind.rest) s (store_of b1 s1) (store_of b1 s1)
    (behind (context_of b1 c.args.context.now) (record { name = text_of b1 c.args.name; body = None; kind = tree_of b1 c.args.term })) (under G x A) (tree_of b1 c.args.kind) T l left
    refl (ap₂ behind same hypothesis) (g1.tree c.args.kind c.requires.kind.has) (c.in-Ok-new_goal_behind.ensures.answer s e) in
    let f = c.in-Ok.ensures.term in
    let a = c.in-Ok-new_goal_behind.ensures.term in
    let last = built_is b3 s2 c.in-Ok-applied.built (store_of b2 s2) (App (Lam x A (close x (goal_term j (under G x A)))) (goal_term k G)) (k ∷ j ∷ [])
    (store_of-grown b2 b3 c.in-Ok-applied.ensures.grows s2 c.in-Ok-new_goal_behind.ensures.has)
    (c.in-Ok-applied.ensures.body.is
    ∙ ap₂ App (ap₂ (λ y B. Lam y B (tree_of b2 c.in-Ok-new_goal_behind.rest.term)) (g2.text c.args.name name_has ∙ name) (g2.tree c.args.term kind_has ∙ kind)
    ∙ ap (Lam x A) (a.is ∙ ap₂ (λ y D. close y (goal_term j D)) name (ap₂ behind same hypothesis)))
    (g2.tree c.in-Ok.argument.term f.has ∙ f.is))
    c.in-Ok-applied.ensures.goals in
    along (λ (z : Done). ComesTo (λ n. assert_work (s n) S G T x A) b (done z left)) last
    (assert_done s S G T x A b l (store_of b1 s1, k) (c.in-Ok.ensures.answer s e) left (store_of b2 s2, j) second)

pub returns-in-Ok-applied-clause-has : goal.returns-in-Ok-applied-clause-has
returns-in-Ok-applied-clause-has g c = HasStore-grown c.new_goal_behind.new.work.bank.now c.applied.new.bank c.in-Ok-applied.ensures.grows c.new_goal_behind.new.store c.in-Ok-new_goal_behind.ensures.has

pub returns-in-Err-new_goal_behind-clause-answer : goal.returns-in-Err-new_goal_behind-clause-answer
unfolding under
returns-in-Err-new_goal_behind-clause-answer g c s e =
    let b0 = c.args.work.now.bank.now in
    let b1 = c.new_goal_term.new.work.bank.now in
    let b2 = c.new_goal_behind.new.work.bank.now in
    let s1 = c.new_goal_term.new.store in
    let s2 = c.new_goal_behind.new.store in
    let l = c.new_goal_term.new.work.ticks.now.left in
    let left = c.new_goal_behind.new.work.ticks.now.left in
    let g1 = c.in-Ok.ensures.grows in
    let G : Context = context_of b0 c.args.context.now in
    let T = tree_of b0 c.args.kind in
    let A = tree_of b0 c.args.term in
    let x = text_of b0 c.args.name in
    let same : context_of b1 c.args.context.now ≡ G = (context_grown b0 b1 g1 c.args.context.now c.requires.place.has).0 in
    let hypothesis : record { name = text_of b1 c.args.name; body = None; kind = tree_of b1 c.args.term } ≡ record { name = x; body = None; kind = A } =
    ap₂ (λ y B. record { name = y; body = None; kind = B }) (g1.text c.args.name c.requires.name) (g1.tree c.args.term c.requires.term.has) in
    assert_stops s (store_of b0 c.args.store.now) G T x A c.args.work.now.ticks.now.left l (store_of b1 s1, c.in-Ok.argument.goal) (c.in-Ok.ensures.answer s e) b2 c.in-Err-new_goal_behind.fault left
    (goal_as b2 (λ (z : NewGoal). (store_of b2 s2, z.goal)) (Err c.in-Err-new_goal_behind.fault) s (store_of b1 s1) (store_of b1 s1)
    (behind (context_of b1 c.args.context.now) (record { name = text_of b1 c.args.name; body = None; kind = tree_of b1 c.args.term })) (under G x A) (tree_of b1 c.args.kind) T l left
    refl (ap₂ behind same hypothesis) (g1.tree c.args.kind c.requires.kind.has) (c.in-Err-new_goal_behind.ensures.answer s e))

pub returns-in-Err-clause-answer : goal.returns-in-Err-clause-answer
returns-in-Err-clause-answer g c s e =
    let b0 = c.args.work.now.bank.now in
    assert_refused s (store_of b0 c.args.store.now) (context_of b0 c.args.context.now) (tree_of b0 c.args.kind) (text_of b0 c.args.name) (tree_of b0 c.args.term) c.args.work.now.ticks.now.left c.new_goal_term.new.work.bank.now
    c.in-Err.fault c.new_goal_term.new.work.ticks.now.left (c.in-Err.ensures.answer s e)
