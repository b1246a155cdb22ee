use Rattle.std.proofs.Common.{◌≡◌, ◌∙◌, sym, ap, arith}
use Rattle.std.specs.Prelude.{slice_get}
use Rattle.std.proofs.Common.{subst as along}
use Rattle.lq_trees.specs.Hypotheses.{HoldsOnly}
use Rattle.lq_trees.specs.Ticks.{gives, done, ComesTo}
use Rattle.lq_terms.specs.Terms.{tree_of}
use Rattle.lq_terms.proofs.Growth.{Grows-trans}
use Rattle.lq_solving.specs.Stores.{count, names_in, read, with_kind}
use Rattle.lq_solving.specs.Kept.{IsStore}
use Rattle.lq_evars.specs.Places.{HasStore, store_of, variable_of}
use Rattle.lq_solving.proofs.InstanceLaws.{length_map}
use Rattle.lq_evars.proofs.Growing.{HasStore-grown, store_of-grown, context_grown}
use Rattle.lq_evars.proofs.Having.{kind_has}
use Rattle.lq_tactics.specs.Rows.{as_goal, needed}
use Rattle.lq_prims.specs.Scenes.{context_at}
use Rattle.lq_prims.specs.Working.{Refuses}
use Rattle.lq_prims.proofs.NewGoalLaws.{read_holds}
use Rattle.lq_prims.proofs.SceneLaws.{there, goal_context, goal_type, type_stands}
use Rattle.lq_prims.proofs.SettleLaws.{goal_unread, goal_formless, goal_settled, settled_kept}
use Rattle.lq_prims.proofs.settling.as_goal.Goals as goal

pub needed-requires-clause-term : goal.needed-requires-clause-term
needed-requires-clause-term g c =
    (goal_type c.args.work.now.bank.now c.args.store.now c.args.goal c.requires.place c.kind-kind.result (λ v e. c.kind-kind.ensures.place v e) (λ v e. c.kind-kind.ensures.told c.args.work.now.bank.now v e)).has

pub needed-requires-clause-over : goal.needed-requires-clause-over
needed-requires-clause-over g c =
    (goal_type c.args.work.now.bank.now c.args.store.now c.args.goal c.requires.place c.kind-kind.result (λ v e. c.kind-kind.ensures.place v e) (λ v e. c.kind-kind.ensures.told c.args.work.now.bank.now v e)).over

pub needed-requires-clause-closed : goal.needed-requires-clause-closed
needed-requires-clause-closed g c =
    (goal_type c.args.work.now.bank.now c.args.store.now c.args.goal c.requires.place c.kind-kind.result (λ v e. c.kind-kind.ensures.place v e) (λ v e. c.kind-kind.ensures.told c.args.work.now.bank.now v e)).within

pub returns-in-Err-clause-answer : goal.returns-in-Err-clause-answer
returns-in-Err-clause-answer g c f bound =
    let bank = c.args.work.now.bank.now in
    let s = store_of bank c.args.store.now in
    let v = there c.args.work.now.bank.now c.args.store.now c.args.goal c.requires.place in
    let b = c.args.work.now.ticks.now.left in
    goal_unread f bound s c.args.goal v.0 v.1 c.needed.new.bank c.in-Err.fault b b
    (along (λ z. Refuses c.needed.new.bank c.in-Err.fault (λ n. needed (read s z)) b b) (c.kind-kind.ensures.told bank v.0 v.1) (c.in-Err.ensures.answer b))

pub normal-requires-clause-context : goal.normal-requires-clause-context
normal-requires-clause-context g c =
    (context_grown c.args.work.now.bank.now c.needed.new.bank c.in-Ok.ensures.grows c.hypotheses.result.now (goal_context c.args.work.now.bank.now c.args.store.now c.args.goal c.requires.place c.hypotheses.result.now (λ v e. c.hypotheses.ensures ∙ c.context.ensures.place v e)).has).1

pub normal-requires-clause-holds : goal.normal-requires-clause-holds
normal-requires-clause-holds g c =
    let bank = c.args.work.now.bank.now in
    let gc = goal_context c.args.work.now.bank.now c.args.store.now c.args.goal c.requires.place c.hypotheses.result.now (λ v e. c.hypotheses.ensures ∙ c.context.ensures.place v e) in
    along (λ z. HoldsOnly (names_in z) (tree_of c.needed.new.bank c.in-Ok.read)) (sym ((context_grown bank c.needed.new.bank c.in-Ok.ensures.grows c.hypotheses.result.now gc.has).0 ∙ gc.is))
    (read_holds (store_of bank c.args.store.now) (context_at (store_of bank c.args.store.now) c.args.goal) (tree_of bank c.kind-kind.result) (tree_of c.needed.new.bank c.in-Ok.read)
    (type_stands c.args.work.now.bank.now c.args.store.now c.args.goal c.requires.place c.kind-kind.result (λ v e. c.kind-kind.ensures.told bank v e)) c.in-Ok.ensures.answer)

pub returns-in-Ok-set_kind-clause-answer : goal.returns-in-Ok-set_kind-clause-answer
returns-in-Ok-set_kind-clause-answer g c f bound =
    let bank = c.args.work.now.bank.now in
    let new = c.normal.new.work.bank.now in
    let s = store_of bank c.args.store.now in
    let v = there c.args.work.now.bank.now c.args.store.now c.args.goal c.requires.place in
    let b = c.args.work.now.ticks.now.left in
    let left = c.normal.new.work.ticks.now.left in
    along (λ z. ComesTo (λ n. as_goal (f n) s c.args.goal (slice_get s.variables c.args.goal)) b (done z left))
    (sym (c.in-Ok-set_kind.ensures.told new ∙ ap (λ z. with_kind z c.args.goal (tree_of new c.in-Ok-normal.form)) (store_of-grown bank new (Grows-trans bank c.needed.new.bank new c.in-Ok.ensures.grows c.in-Ok-normal.ensures.grows) c.args.store.now c.requires.place.store)))
    (goal_settled f bound s c.args.goal v.0 v.1 (tree_of c.needed.new.bank c.in-Ok.read) (along (λ z. needed (read s z) ≡ gives (tree_of c.needed.new.bank c.in-Ok.read)) (c.kind-kind.ensures.told bank v.0 v.1) c.in-Ok.ensures.answer)
    b left bank (tree_of new c.in-Ok-normal.form) c.in-Ok-normal.ensures.answer)

pub returns-in-Ok-set_kind-clause-has : goal.returns-in-Ok-set_kind-clause-has
returns-in-Ok-set_kind-clause-has g c =
    let bank = c.args.work.now.bank.now in
    let new = c.normal.new.work.bank.now in
    along (HasStore new) (sym c.in-Ok-set_kind.ensures.changed)
    (kind_has new c.args.store.now c.args.goal c.in-Ok-normal.form (HasStore-grown bank new (Grows-trans bank c.needed.new.bank new c.in-Ok.ensures.grows c.in-Ok-normal.ensures.grows) c.args.store.now c.requires.place.store) c.in-Ok-normal.ensures.has)

pub returns-in-Ok-set_kind-clause-kept : goal.returns-in-Ok-set_kind-clause-kept
returns-in-Ok-set_kind-clause-kept g c =
    let bank = c.args.work.now.bank.now in
    let new = c.normal.new.work.bank.now in
    let s = store_of bank c.args.store.now in
    let v = there c.args.work.now.bank.now c.args.store.now c.args.goal c.requires.place in
    let b = c.args.work.now.ticks.now.left in
    let left = c.normal.new.work.ticks.now.left in
    along IsStore (sym (c.in-Ok-set_kind.ensures.told new ∙ ap (λ z. with_kind z c.args.goal (tree_of new c.in-Ok-normal.form)) (store_of-grown bank new (Grows-trans bank c.needed.new.bank new c.in-Ok.ensures.grows c.in-Ok-normal.ensures.grows) c.args.store.now c.requires.place.store)))
    (settled_kept s (with_kind s c.args.goal (tree_of new c.in-Ok-normal.form)) c.args.goal b left c.requires.place.kept
    (λ f bound. goal_settled f bound s c.args.goal v.0 v.1 (tree_of c.needed.new.bank c.in-Ok.read) (along (λ z. needed (read s z) ≡ gives (tree_of c.needed.new.bank c.in-Ok.read)) (c.kind-kind.ensures.told bank v.0 v.1) c.in-Ok.ensures.answer)
    b left bank (tree_of new c.in-Ok-normal.form) c.in-Ok-normal.ensures.answer)).grown.store

pub returns-in-Ok-set_kind-clause-count : goal.returns-in-Ok-set_kind-clause-count
returns-in-Ok-set_kind-clause-count g c =
    let bank = c.args.work.now.bank.now in
    let new = c.normal.new.work.bank.now in
    let s = store_of bank c.args.store.now in
    let v = there c.args.work.now.bank.now c.args.store.now c.args.goal c.requires.place in
    let b = c.args.work.now.ticks.now.left in
    let left = c.normal.new.work.ticks.now.left in
    let same : count (store_of new c.set_kind.new.self) ≡ count (with_kind s c.args.goal (tree_of new c.in-Ok-normal.form)) = ap count (c.in-Ok-set_kind.ensures.told new ∙ ap (λ z. with_kind z c.args.goal (tree_of new c.in-Ok-normal.form)) (store_of-grown bank new (Grows-trans bank c.needed.new.bank new c.in-Ok.ensures.grows c.in-Ok-normal.ensures.grows) c.args.store.now c.requires.place.store)) in
    let kept : count (with_kind s c.args.goal (tree_of new c.in-Ok-normal.form)) ≡ count s =
    (settled_kept s (with_kind s c.args.goal (tree_of new c.in-Ok-normal.form)) c.args.goal b left c.requires.place.kept
    (λ f bound. goal_settled f bound s c.args.goal v.0 v.1 (tree_of c.needed.new.bank c.in-Ok.read) (along (λ z. needed (read s z) ≡ gives (tree_of c.needed.new.bank c.in-Ok.read)) (c.kind-kind.ensures.told bank v.0 v.1) c.in-Ok.ensures.answer)
    b left bank (tree_of new c.in-Ok-normal.form) c.in-Ok-normal.ensures.answer)).count in
    omega (arith, length_map (variable_of new) c.set_kind.new.self.variables, length_map (variable_of bank) c.args.store.now.variables, same, kept)

pub returns-in-Err-normal-clause-answer : goal.returns-in-Err-normal-clause-answer
returns-in-Err-normal-clause-answer g c f bound =
    let bank = c.args.work.now.bank.now in
    let s = store_of bank c.args.store.now in
    let v = there c.args.work.now.bank.now c.args.store.now c.args.goal c.requires.place in
    goal_formless f bound s c.args.goal v.0 v.1 (tree_of c.needed.new.bank c.in-Ok.read) (along (λ z. needed (read s z) ≡ gives (tree_of c.needed.new.bank c.in-Ok.read)) (c.kind-kind.ensures.told bank v.0 v.1) c.in-Ok.ensures.answer)
    c.args.work.now.ticks.now.left c.normal.new.work.ticks.now.left c.normal.new.work.bank.now c.in-Err-normal.fault c.in-Err-normal.ensures.answer
