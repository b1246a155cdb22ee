use Rattle.std.proofs.Common.{◌≡◌, ◌∙◌, refl, sym, ap, suc, [], None, arith, false}
use Rattle.std.proofs.Common.{subst as along}
use Rattle.lq_ast.specs.Plain.{plain}
use Rattle.lq_trees.specs.Fresh.{is_listed}
use Rattle.lq_terms.specs.Contexts.{HasContext, context_of}
use Rattle.lq_terms.specs.Terms.{text_of, tree_of}
use Rattle.lq_env.specs.Environments.{env_of}
use Rattle.lq_solving.specs.Elaboration.{found}
use Rattle.lq_solving.specs.Stores.{names_in}
use Rattle.lq_evars.specs.Places.{store_of}
use Rattle.lq_trees.specs.Ticks.{gives}
use Rattle.lq_tactics.specs.Rows.{unused}
use Rattle.lq_prims.specs.Working.{Refuses}
use Rattle.lq_elab.specs.States.{givens_of}
use Rattle.lq_prims.specs.Building.{built_done}
use Rattle.lq_prims.specs.Scenes.{context_at, scene_by, scene_in}
use Rattle.lq_prims.proofs.SceneLaws.{placed_scene}
use Rattle.lq_prims.proofs.AfterLaws.{after_context, after_in, after_kind, after_term}
use Rattle.lq_tactics.specs.Primitives.{type_term}
use Rattle.lq_prims.proofs.TermLaws.{found_once}
use Rattle.lq_prims.proofs.WorkLaws.{comes_is_given}
use Rattle.lq_prims.proofs.AssertLaws.{type_written, assert_found, assert_used, assert_free, assert_as, assert_reaches}
use Rattle.lq_prims.proofs.asserting.do_assert.Goals as goal

pub unused-requires-clause-context : goal.unused-requires-clause-context
unused-requires-clause-context g c =
    along (HasContext c.type_term.new.work.bank.now) (sym c.hypotheses.ensures)
    (after_in c.args.work.now.bank.now c.args.env.now c.args.store.now c.args.goal c.args.kind c.requires.placed c.in-Ok.context (λ v e. c.in-Ok.ensures ∙ c.context.ensures.place v e) c.type_term.new.work.bank.now c.in-Ok-type_term.ensures.grows c.type_term.new.store c.in-Ok-type_term.found c.in-Ok-type_term.ensures.stands).has

pub unused-requires-clause-name : goal.unused-requires-clause-name
unused-requires-clause-name g c = omega (arith, c.requires.name, c.in-Ok-type_term.ensures.grows.names)

pub assert_goals-requires-clause-place : goal.assert_goals-requires-clause-place
assert_goals-requires-clause-place g c = after_in c.args.work.now.bank.now c.args.env.now c.args.store.now c.args.goal c.args.kind c.requires.placed c.in-Ok.context (λ v e. c.in-Ok.ensures ∙ c.context.ensures.place v e) c.type_term.new.work.bank.now c.in-Ok-type_term.ensures.grows c.type_term.new.store c.in-Ok-type_term.found c.in-Ok-type_term.ensures.stands

pub assert_goals-requires-clause-kind : goal.assert_goals-requires-clause-kind
assert_goals-requires-clause-kind g c = after_kind c.args.work.now.bank.now c.args.env.now c.args.store.now c.args.goal c.args.kind c.requires.placed c.in-Ok.context (λ v e. c.in-Ok.ensures ∙ c.context.ensures.place v e) c.type_term.new.work.bank.now c.in-Ok-type_term.ensures.grows c.type_term.new.store c.in-Ok-type_term.found c.in-Ok-type_term.ensures.stands

pub assert_goals-requires-clause-term : goal.assert_goals-requires-clause-term
assert_goals-requires-clause-term g c = after_term c.args.work.now.bank.now c.args.env.now c.args.store.now c.args.goal c.args.kind c.requires.placed c.in-Ok.context (λ v e. c.in-Ok.ensures ∙ c.context.ensures.place v e) c.type_term.new.work.bank.now c.in-Ok-type_term.ensures.grows c.type_term.new.store c.in-Ok-type_term.found c.in-Ok-type_term.ensures.stands

pub assert_goals-requires-clause-name : goal.assert_goals-requires-clause-name
assert_goals-requires-clause-name g c = omega (arith, c.requires.name, c.in-Ok-type_term.ensures.grows.names)

pub assert_goals-requires-clause-new : goal.assert_goals-requires-clause-new
assert_goals-requires-clause-new g c =
    let mid = c.type_term.new.work.bank.now in
    along (λ z. is_listed (names_in (context_of mid z)) (text_of mid c.args.name) ≡ false) c.hypotheses.ensures c.in-Ok-unused.ensures.new

pub returns-in-Ok-unused-clause-answer : goal.returns-in-Ok-unused-clause-answer
returns-in-Ok-unused-clause-answer g c =
    let bank = c.args.work.now.bank.now in
    let mid = c.type_term.new.work.bank.now in
    let p = c.args.store.now in
    let S = store_of bank p in
    let E = env_of bank c.args.env.now in
    let G = context_at S c.args.goal in
    let T = tree_of bank c.args.kind in
    let vs = givens_of bank c.args.values.now in
    let t = plain c.args.term.now in
    let x = text_of bank c.args.name in
    let b = c.args.work.now.ticks.now.left in
    let l = c.type_term.new.work.ticks.now.left in
    let f = found (store_of mid c.type_term.new.store) (tree_of mid c.in-Ok-type_term.found.term) (tree_of mid c.in-Ok-type_term.found.kind) in
    let new = c.assert_goals.new.work.bank.now in
    let same = after_context c.args.work.now.bank.now c.args.env.now c.args.store.now c.args.goal c.args.kind c.requires.placed c.in-Ok.context (λ v e. c.in-Ok.ensures ∙ c.context.ensures.place v e) c.type_term.new.work.bank.now c.in-Ok-type_term.ensures.grows c.type_term.new.store c.in-Ok-type_term.found c.in-Ok-type_term.ensures.stands in
    let text = c.in-Ok-type_term.ensures.grows.text c.args.name c.requires.name in
    assert_free E S c.args.goal G T vs t b x l f (c.in-Ok-type_term.ensures.answer T)
    (ap (unused (scene_by E S c.args.goal G T vs 0)) (sym text) ∙ c.in-Ok-unused.ensures.answer (scene_by E S c.args.goal G T vs 0) (sym same ∙ ap (context_of mid) (sym c.hypotheses.ensures)) ∙ ap gives text)
    new (built_done new c.assert_goals.new.store) c.assert_goals.result c.assert_goals.new.work.ticks.now.left
    (assert_as new (built_done new c.assert_goals.new.store) c.assert_goals.result (λ n. scene_by E S c.args.goal G T vs n) f.store (context_of mid c.in-Ok.context) G (tree_of mid c.args.kind) T (text_of mid c.args.name) x f.term l c.assert_goals.new.work.ticks.now.left
    same (c.in-Ok-type_term.ensures.grows.tree c.args.kind c.requires.placed.kind) text
    (c.assert_goals.ensures.answer (λ n. scene_by E S c.args.goal G T vs n) (λ n. refl)))

pub returns-in-Ok-unused-clause-reached : goal.returns-in-Ok-unused-clause-reached
returns-in-Ok-unused-clause-reached g c =
    let bank = c.args.work.now.bank.now in
    let mid = c.type_term.new.work.bank.now in
    let p = c.args.store.now in
    let S = store_of bank p in
    let E = env_of bank c.args.env.now in
    let G = context_at S c.args.goal in
    let T = tree_of bank c.args.kind in
    let vs = givens_of bank c.args.values.now in
    let t = plain c.args.term.now in
    let x = text_of bank c.args.name in
    let b = c.args.work.now.ticks.now.left in
    let l = c.type_term.new.work.ticks.now.left in
    let f = found (store_of mid c.type_term.new.store) (tree_of mid c.in-Ok-type_term.found.term) (tree_of mid c.in-Ok-type_term.found.kind) in
    let new = c.assert_goals.new.work.bank.now in
    let same = after_context c.args.work.now.bank.now c.args.env.now c.args.store.now c.args.goal c.args.kind c.requires.placed c.in-Ok.context (λ v e. c.in-Ok.ensures ∙ c.context.ensures.place v e) c.type_term.new.work.bank.now c.in-Ok-type_term.ensures.grows c.type_term.new.store c.in-Ok-type_term.found c.in-Ok-type_term.ensures.stands in
    let text = c.in-Ok-type_term.ensures.grows.text c.args.name c.requires.name in
    assert_reaches E S c.args.goal G T vs t b x new (built_done new c.assert_goals.new.store) c.assert_goals.result c.assert_goals.new.work.ticks.now.left (scene_in bank c.args.env.now p c.args.goal c.args.kind [] 0)
    (assert_free E S c.args.goal G T vs t b x l f (c.in-Ok-type_term.ensures.answer T)
    (ap (unused (scene_by E S c.args.goal G T vs 0)) (sym text) ∙ c.in-Ok-unused.ensures.answer (scene_by E S c.args.goal G T vs 0) (sym same ∙ ap (context_of mid) (sym c.hypotheses.ensures)) ∙ ap gives text)
    new (built_done new c.assert_goals.new.store) c.assert_goals.result c.assert_goals.new.work.ticks.now.left
    (assert_as new (built_done new c.assert_goals.new.store) c.assert_goals.result (λ n. scene_by E S c.args.goal G T vs n) f.store (context_of mid c.in-Ok.context) G (tree_of mid c.args.kind) T (text_of mid c.args.name) x f.term l c.assert_goals.new.work.ticks.now.left
    same (c.in-Ok-type_term.ensures.grows.tree c.args.kind c.requires.placed.kind) text
    (c.assert_goals.ensures.answer (λ n. scene_by E S c.args.goal G T vs n) (λ n. refl))))
    (placed_scene bank c.args.env.now p c.args.goal c.args.kind c.requires.placed vs (suc b) c.requires.values_stand)
    (found_once (scene_in bank c.args.env.now p c.args.goal c.args.kind vs (suc b)) t None f
    (type_written (scene_in bank c.args.env.now p c.args.goal c.args.kind vs (suc b)) t f (comes_is_given (λ n. type_term (scene_in bank c.args.env.now p c.args.goal c.args.kind vs n) t) b l f (c.in-Ok-type_term.ensures.answer T)))
    (c.in-Ok-type_term.ensures.stands.grown, c.in-Ok-type_term.ensures.stands.term_stands, c.in-Ok-type_term.ensures.stands.kind_stands)) refl refl

pub returns-in-Ok-type_term-clause-answer : goal.returns-in-Ok-type_term-clause-answer
returns-in-Ok-type_term-clause-answer g c =
    let bank = c.args.work.now.bank.now in
    let mid = c.type_term.new.work.bank.now in
    let S = store_of bank c.args.store.now in
    let E = env_of bank c.args.env.now in
    let G = context_at S c.args.goal in
    let T = tree_of bank c.args.kind in
    let vs = givens_of bank c.args.values.now in
    let x = text_of bank c.args.name in
    let f = found (store_of mid c.type_term.new.store) (tree_of mid c.in-Ok-type_term.found.term) (tree_of mid c.in-Ok-type_term.found.kind) in
    assert_used E S c.args.goal G T vs (plain c.args.term.now) c.args.work.now.ticks.now.left x c.type_term.new.work.ticks.now.left f (c.in-Ok-type_term.ensures.answer T) mid c.in-Err-unused.fault
    (λ a. along (λ z. Refuses mid c.in-Err-unused.fault (λ n. unused (scene_by E S c.args.goal G T vs 0) z) a a) (c.in-Ok-type_term.ensures.grows.text c.args.name c.requires.name)
    (c.in-Err-unused.ensures.answer (scene_by E S c.args.goal G T vs 0) (sym (after_context c.args.work.now.bank.now c.args.env.now c.args.store.now c.args.goal c.args.kind c.requires.placed c.in-Ok.context (λ v e. c.in-Ok.ensures ∙ c.context.ensures.place v e) c.type_term.new.work.bank.now c.in-Ok-type_term.ensures.grows c.type_term.new.store c.in-Ok-type_term.found c.in-Ok-type_term.ensures.stands) ∙ ap (context_of mid) (sym c.hypotheses.ensures)) a))

pub returns-clause-answer : goal.returns-clause-answer
returns-clause-answer g c =
    let bank = c.args.work.now.bank.now in
    let S = store_of bank c.args.store.now in
    let T = tree_of bank c.args.kind in
    assert_found (env_of bank c.args.env.now) S c.args.goal (context_at S c.args.goal) T (givens_of bank c.args.values.now) (plain c.args.term.now) c.args.work.now.ticks.now.left (text_of bank c.args.name)
    c.type_term.new.work.bank.now c.in-Err-type_term.fault c.type_term.new.work.ticks.now.left (c.in-Err-type_term.ensures.answer T)
