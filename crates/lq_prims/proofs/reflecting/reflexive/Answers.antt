use Rattle.std.proofs.Common.{◌∙◌, ◌∷◌, [], sym, ap, ap₂}
use Rattle.std.proofs.Common.{subst as along}
use Rattle.std.specs.Prelude.{codes}
use Rattle.lq_trees.specs.Tree.Tree.{App, Ctor}
use Rattle.lq_trees.specs.Ticks.{done, ComesTo}
use Rattle.lq_terms.specs.Terms.{tree_of}
use Rattle.lq_env.specs.Environments.{env_of}
use Rattle.lq_solving.specs.Kept.{IsOver}
use Rattle.lq_solving.specs.Stores.{read}
use Rattle.lq_evars.specs.Places.{store_of}
use Rattle.lq_evars.proofs.Growing.{store_of-grown, HasStore-grown}
use Rattle.lq_unify.specs.Frames.{answer_of}
use Rattle.lq_tactics.specs.Rows.{Done, told, do_not_unify}
use Rattle.lq_prims.specs.Scenes.{context_at}
use Rattle.lq_prims.specs.Working.{Refuses}
use Rattle.lq_prims.proofs.ReflexLaws.{sides, sides_yes, sides_no, sides_refused}
use Rattle.lq_prims.proofs.reflecting.reflexive.Goals as goal

pub apart-requires-clause-left_over : goal.apart-requires-clause-left_over
apart-requires-clause-left_over g c =
    let bank = c.args.work.now.bank.now in
    let mid = c.unifies_at.new.work.bank.now in
    let grows = c.in-Ok-false.ensures.grows in
    along (λ z. IsOver z.variables (tree_of mid c.args.equality.left)) (sym (ap (store_of mid) (c.in-Ok-false.ensures.same c.in-Ok-false.field-0-test) ∙ store_of-grown bank mid grows c.args.store.now c.requires.place.store))
    (along (IsOver (store_of bank c.args.store.now).variables) (sym (grows.tree c.args.equality.left c.requires.has.1)) c.requires.left.over)

pub apart-requires-clause-right_over : goal.apart-requires-clause-right_over
apart-requires-clause-right_over g c =
    let bank = c.args.work.now.bank.now in
    let mid = c.unifies_at.new.work.bank.now in
    let grows = c.in-Ok-false.ensures.grows in
    along (λ z. IsOver z.variables (tree_of mid c.args.equality.right)) (sym (ap (store_of mid) (c.in-Ok-false.ensures.same c.in-Ok-false.field-0-test) ∙ store_of-grown bank mid grows c.args.store.now c.requires.place.store))
    (along (IsOver (store_of bank c.args.store.now).variables) (sym (grows.tree c.args.equality.right c.requires.has.2)) c.requires.right.over)

pub returns-in_ok-body-in-Ok-true-clause-answer : goal.returns-in_ok-body-in-Ok-true-clause-answer
returns-in_ok-body-in-Ok-true-clause-answer g c T t vs =
    let bank = c.args.work.now.bank.now in
    let mid = c.unifies_at.new.work.bank.now in
    let new = c.reflection.new.bank in
    let s = store_of bank c.args.store.now in
    let b = c.args.work.now.ticks.now.left in
    let left = c.unifies_at.new.work.ticks.now.left in
    let E = env_of bank c.args.env.now in
    let h = context_at s c.args.goal in
    let A = tree_of bank c.args.equality.kind in
    let l = tree_of bank c.args.equality.left in
    let r = tree_of bank c.args.equality.right in
    let grows = c.in-Ok-true.ensures.grows in
    sides_yes E s c.args.goal h T vs t A l r new b left (store_of mid c.unifies_at.new.store) (store_of new c.unifies_at.new.store) (tree_of new c.in_ok-body-in-Ok-true.body)
    (along (λ o. ComesTo (sides E s c.args.goal h T vs t A l r) b (done (answer_of mid c.unifies_at.new.store o) left)) c.in-Ok-true.field-0-test c.in-Ok-true.ensures.answer)
    (sym (store_of-grown mid new c.in_ok-body-in-Ok-true.ensures.grows c.unifies_at.new.store c.in-Ok-true.ensures.has))
    (sym (c.in_ok-body-in-Ok-true.ensures.is.is ∙ ap₂ (λ x y. App (App (Ctor (codes "eq") 0) x) y) (grows.tree c.args.equality.kind c.requires.has.0) (grows.tree c.args.equality.left c.requires.has.1)))

pub returns-in_ok-body-in-Ok-true-clause-has : goal.returns-in_ok-body-in-Ok-true-clause-has
returns-in_ok-body-in-Ok-true-clause-has g c =
    HasStore-grown c.unifies_at.new.work.bank.now c.reflection.new.bank c.in_ok-body-in-Ok-true.ensures.grows c.unifies_at.new.store c.in-Ok-true.ensures.has

pub returns-in-Ok-false-clause-answer : goal.returns-in-Ok-false-clause-answer
returns-in-Ok-false-clause-answer g c T t vs =
    let bank = c.args.work.now.bank.now in
    let mid = c.unifies_at.new.work.bank.now in
    let new = c.apart.new.bank in
    let s = store_of bank c.args.store.now in
    let b = c.args.work.now.ticks.now.left in
    let left = c.unifies_at.new.work.ticks.now.left in
    let E = env_of bank c.args.env.now in
    let h = context_at s c.args.goal in
    let A = tree_of bank c.args.equality.kind in
    let l = tree_of bank c.args.equality.left in
    let r = tree_of bank c.args.equality.right in
    let grows = c.in-Ok-false.ensures.grows in
    let same = ap (store_of mid) (c.in-Ok-false.ensures.same c.in-Ok-false.field-0-test) ∙ store_of-grown bank mid grows c.args.store.now c.requires.place.store in
    let r1 = read (store_of mid c.unifies_at.new.store) (tree_of mid c.args.equality.right) in
    sides_no E s c.args.goal h T vs t A l r new c.apart.result b left
    (along (λ o. ComesTo (sides E s c.args.goal h T vs t A l r) b (done (answer_of mid c.unifies_at.new.store o) left)) c.in-Ok-false.field-0-test c.in-Ok-false.ensures.answer)
    (along (λ y. Refuses {A = Done} new c.apart.result (λ n. told (read s l ∷ y ∷ []) (do_not_unify (read s l) y)) left left) (ap₂ read same (grows.tree c.args.equality.right c.requires.has.2))
    (along (λ x. Refuses {A = Done} new c.apart.result (λ n. told (x ∷ r1 ∷ []) (do_not_unify x r1)) left left) (ap₂ read same (grows.tree c.args.equality.left c.requires.has.1)) (c.apart.ensures.answer left)))

pub returns-in-Err-clause-answer : goal.returns-in-Err-clause-answer
returns-in-Err-clause-answer g c T t vs =
    let bank = c.args.work.now.bank.now in
    let s = store_of bank c.args.store.now in
    sides_refused (env_of bank c.args.env.now) s c.args.goal (context_at s c.args.goal) T vs t (tree_of bank c.args.equality.kind) (tree_of bank c.args.equality.left) (tree_of bank c.args.equality.right)
    c.unifies_at.new.work.bank.now c.in-Err.fault c.args.work.now.ticks.now.left c.unifies_at.new.work.ticks.now.left c.in-Err.ensures.answer
