use Rattle.std.proofs.Common.{◌≡◌, ◌∙◌, refl, sym, ap, suc, [], None, arith, false}
use Rattle.std.proofs.Common.{subst as along}
use Rattle.lq_ast.specs.Plain.{plain}
use Rattle.lq_trees.specs.Fresh.{is_listed}
use Rattle.lq_terms.specs.Contexts.{HasContext, context_of}
use Rattle.lq_terms.specs.Terms.{text_of, tree_of}
use Rattle.lq_env.specs.Environments.{env_of}
use Rattle.lq_solving.specs.Elaboration.{found}
use Rattle.lq_solving.specs.Stores.{names_in}
use Rattle.lq_evars.specs.Places.{store_of}
use Rattle.lq_trees.specs.Ticks.{gives}
use Rattle.lq_tactics.specs.Rows.{unused}
use Rattle.lq_prims.specs.Working.{Refuses}
use Rattle.lq_elab.specs.States.{givens_of}
use Rattle.lq_prims.specs.Building.{built_done}
use Rattle.lq_prims.specs.Scenes.{context_at, scene_by, scene_in}
use Rattle.lq_prims.proofs.SceneLaws.{placed_scene}
use Rattle.lq_prims.proofs.AfterLaws.{after_context, after_in, after_kind, after_term, after_type, after_found}
use Rattle.lq_prims.proofs.PoseLaws.{pose_found, pose_used, pose_free, pose_as, pose_reaches}
use Rattle.lq_prims.proofs.posing.do_pose.Goals as goal

pub unused-requires-clause-context : goal.unused-requires-clause-context
unused-requires-clause-context g c =
    along (HasContext c.term_of.new.work.bank.now) (sym c.hypotheses.ensures)
    (after_in c.args.work.now.bank.now c.args.env.now c.args.store.now c.args.goal c.args.kind c.requires.placed c.in-Ok.context (λ v e. c.in-Ok.ensures ∙ c.context.ensures.place v e) c.term_of.new.work.bank.now c.in-Ok-term_of.ensures.grows c.term_of.new.store c.in-Ok-term_of.found c.in-Ok-term_of.ensures.stands).has

pub unused-requires-clause-name : goal.unused-requires-clause-name
unused-requires-clause-name g c = omega (arith, c.requires.name, c.in-Ok-term_of.ensures.grows.names)

pub pose_goal-requires-clause-place : goal.pose_goal-requires-clause-place
pose_goal-requires-clause-place g c = after_in c.args.work.now.bank.now c.args.env.now c.args.store.now c.args.goal c.args.kind c.requires.placed c.in-Ok.context (λ v e. c.in-Ok.ensures ∙ c.context.ensures.place v e) c.term_of.new.work.bank.now c.in-Ok-term_of.ensures.grows c.term_of.new.store c.in-Ok-term_of.found c.in-Ok-term_of.ensures.stands

pub pose_goal-requires-clause-kind : goal.pose_goal-requires-clause-kind
pose_goal-requires-clause-kind g c = after_kind c.args.work.now.bank.now c.args.env.now c.args.store.now c.args.goal c.args.kind c.requires.placed c.in-Ok.context (λ v e. c.in-Ok.ensures ∙ c.context.ensures.place v e) c.term_of.new.work.bank.now c.in-Ok-term_of.ensures.grows c.term_of.new.store c.in-Ok-term_of.found c.in-Ok-term_of.ensures.stands

pub pose_goal-requires-clause-follows : goal.pose_goal-requires-clause-follows
pose_goal-requires-clause-follows g c =
    let mid = c.term_of.new.work.bank.now in
    let t = after_term c.args.work.now.bank.now c.args.env.now c.args.store.now c.args.goal c.args.kind c.requires.placed c.in-Ok.context (λ v e. c.in-Ok.ensures ∙ c.context.ensures.place v e) c.term_of.new.work.bank.now c.in-Ok-term_of.ensures.grows c.term_of.new.store c.in-Ok-term_of.found c.in-Ok-term_of.ensures.stands in
    let k = after_type c.args.work.now.bank.now c.args.env.now c.args.store.now c.args.goal c.args.kind c.requires.placed c.in-Ok.context (λ v e. c.in-Ok.ensures ∙ c.context.ensures.place v e) c.term_of.new.work.bank.now c.in-Ok-term_of.ensures.grows c.term_of.new.store c.in-Ok-term_of.found c.in-Ok-term_of.ensures.stands in
    record {
      has = record { name = omega (arith, c.requires.name, c.in-Ok-term_of.ensures.grows.names); body = t.has; kind = k.has };
      new = along (λ z. is_listed (names_in (context_of mid z)) (text_of mid c.args.name) ≡ false) c.hypotheses.ensures c.in-Ok-unused.ensures.new;
      body = t.stands;
      kind = k.stands;
    }

pub returns-in-Ok-unused-clause-answer : goal.returns-in-Ok-unused-clause-answer
returns-in-Ok-unused-clause-answer g c =
    let bank = c.args.work.now.bank.now in
    let mid = c.term_of.new.work.bank.now in
    let p = c.args.store.now in
    let S = store_of bank p in
    let E = env_of bank c.args.env.now in
    let G = context_at S c.args.goal in
    let T = tree_of bank c.args.kind in
    let vs = givens_of bank c.args.values.now in
    let t = plain c.args.term.now in
    let x = text_of bank c.args.name in
    let b = c.args.work.now.ticks.now.left in
    let l = c.term_of.new.work.ticks.now.left in
    let f = found (store_of mid c.term_of.new.store) (tree_of mid c.in-Ok-term_of.found.term) (tree_of mid c.in-Ok-term_of.found.kind) in
    let new = c.pose_goal.new.work.bank.now in
    let same = after_context c.args.work.now.bank.now c.args.env.now c.args.store.now c.args.goal c.args.kind c.requires.placed c.in-Ok.context (λ v e. c.in-Ok.ensures ∙ c.context.ensures.place v e) c.term_of.new.work.bank.now c.in-Ok-term_of.ensures.grows c.term_of.new.store c.in-Ok-term_of.found c.in-Ok-term_of.ensures.stands in
    let text = c.in-Ok-term_of.ensures.grows.text c.args.name c.requires.name in
    pose_free E S c.args.goal G T vs x t b l f (c.in-Ok-term_of.ensures.answer T)
    (ap (unused (scene_by E S c.args.goal G T vs 0)) (sym text) ∙ c.in-Ok-unused.ensures.answer (scene_by E S c.args.goal G T vs 0) (sym same ∙ ap (context_of mid) (sym c.hypotheses.ensures)) ∙ ap gives text)
    new (built_done new c.pose_goal.new.store) c.pose_goal.result c.pose_goal.new.work.ticks.now.left
    (pose_as new (built_done new c.pose_goal.new.store) c.pose_goal.result (λ n. scene_by E S c.args.goal G T vs n) f.store (context_of mid c.in-Ok.context) G (tree_of mid c.args.kind) T (text_of mid c.args.name) x f.term f.kind l c.pose_goal.new.work.ticks.now.left
    same (c.in-Ok-term_of.ensures.grows.tree c.args.kind c.requires.placed.kind) text
    (c.pose_goal.ensures.answer (λ n. scene_by E S c.args.goal G T vs n) (λ n. refl)))

pub returns-in-Ok-unused-clause-reached : goal.returns-in-Ok-unused-clause-reached
returns-in-Ok-unused-clause-reached g c =
    let bank = c.args.work.now.bank.now in
    let mid = c.term_of.new.work.bank.now in
    let p = c.args.store.now in
    let S = store_of bank p in
    let E = env_of bank c.args.env.now in
    let G = context_at S c.args.goal in
    let T = tree_of bank c.args.kind in
    let vs = givens_of bank c.args.values.now in
    let t = plain c.args.term.now in
    let x = text_of bank c.args.name in
    let b = c.args.work.now.ticks.now.left in
    let l = c.term_of.new.work.ticks.now.left in
    let f = found (store_of mid c.term_of.new.store) (tree_of mid c.in-Ok-term_of.found.term) (tree_of mid c.in-Ok-term_of.found.kind) in
    let new = c.pose_goal.new.work.bank.now in
    let same = after_context c.args.work.now.bank.now c.args.env.now c.args.store.now c.args.goal c.args.kind c.requires.placed c.in-Ok.context (λ v e. c.in-Ok.ensures ∙ c.context.ensures.place v e) c.term_of.new.work.bank.now c.in-Ok-term_of.ensures.grows c.term_of.new.store c.in-Ok-term_of.found c.in-Ok-term_of.ensures.stands in
    let text = c.in-Ok-term_of.ensures.grows.text c.args.name c.requires.name in
    pose_reaches E S c.args.goal G T vs x t b new (built_done new c.pose_goal.new.store) c.pose_goal.result c.pose_goal.new.work.ticks.now.left (scene_in bank c.args.env.now p c.args.goal c.args.kind [] 0)
    (pose_free E S c.args.goal G T vs x t b l f (c.in-Ok-term_of.ensures.answer T)
    (ap (unused (scene_by E S c.args.goal G T vs 0)) (sym text) ∙ c.in-Ok-unused.ensures.answer (scene_by E S c.args.goal G T vs 0) (sym same ∙ ap (context_of mid) (sym c.hypotheses.ensures)) ∙ ap gives text)
    new (built_done new c.pose_goal.new.store) c.pose_goal.result c.pose_goal.new.work.ticks.now.left
    (pose_as new (built_done new c.pose_goal.new.store) c.pose_goal.result (λ n. scene_by E S c.args.goal G T vs n) f.store (context_of mid c.in-Ok.context) G (tree_of mid c.args.kind) T (text_of mid c.args.name) x f.term f.kind l c.pose_goal.new.work.ticks.now.left
    same (c.in-Ok-term_of.ensures.grows.tree c.args.kind c.requires.placed.kind) text
    (c.pose_goal.ensures.answer (λ n. scene_by E S c.args.goal G T vs n) (λ n. refl))))
    (placed_scene bank c.args.env.now p c.args.goal c.args.kind c.requires.placed vs (suc b) c.requires.values_stand)
    (after_found c.args.work.now.bank.now c.args.env.now c.args.store.now c.args.goal c.args.kind c.requires.placed c.in-Ok.context (λ v e. c.in-Ok.ensures ∙ c.context.ensures.place v e) c.term_of.new.work.bank.now c.in-Ok-term_of.ensures.grows c.term_of.new.store c.in-Ok-term_of.found c.in-Ok-term_of.ensures.stands vs t None b l (c.in-Ok-term_of.ensures.answer T)) refl refl

pub returns-in-Ok-term_of-clause-answer : goal.returns-in-Ok-term_of-clause-answer
returns-in-Ok-term_of-clause-answer g c =
    let bank = c.args.work.now.bank.now in
    let mid = c.term_of.new.work.bank.now in
    let S = store_of bank c.args.store.now in
    let E = env_of bank c.args.env.now in
    let G = context_at S c.args.goal in
    let T = tree_of bank c.args.kind in
    let vs = givens_of bank c.args.values.now in
    let x = text_of bank c.args.name in
    let f = found (store_of mid c.term_of.new.store) (tree_of mid c.in-Ok-term_of.found.term) (tree_of mid c.in-Ok-term_of.found.kind) in
    pose_used E S c.args.goal G T vs x (plain c.args.term.now) c.args.work.now.ticks.now.left c.term_of.new.work.ticks.now.left f (c.in-Ok-term_of.ensures.answer T) mid c.in-Err-unused.fault
    (λ a. along (λ z. Refuses mid c.in-Err-unused.fault (λ n. unused (scene_by E S c.args.goal G T vs 0) z) a a) (c.in-Ok-term_of.ensures.grows.text c.args.name c.requires.name)
    (c.in-Err-unused.ensures.answer (scene_by E S c.args.goal G T vs 0) (sym (after_context c.args.work.now.bank.now c.args.env.now c.args.store.now c.args.goal c.args.kind c.requires.placed c.in-Ok.context (λ v e. c.in-Ok.ensures ∙ c.context.ensures.place v e) c.term_of.new.work.bank.now c.in-Ok-term_of.ensures.grows c.term_of.new.store c.in-Ok-term_of.found c.in-Ok-term_of.ensures.stands) ∙ ap (context_of mid) (sym c.hypotheses.ensures)) a))

pub returns-clause-answer : goal.returns-clause-answer
returns-clause-answer g c =
    let bank = c.args.work.now.bank.now in
    let S = store_of bank c.args.store.now in
    let T = tree_of bank c.args.kind in
    pose_found (env_of bank c.args.env.now) S c.args.goal (context_at S c.args.goal) T (givens_of bank c.args.values.now) (text_of bank c.args.name) (plain c.args.term.now) c.args.work.now.ticks.now.left
    c.term_of.new.work.bank.now c.in-Err-term_of.fault c.term_of.new.work.ticks.now.left (c.in-Err-term_of.ensures.answer T)
