use Rattle.std.proofs.Common.{refl, sym, suc, [], Some}
use Rattle.lq_ast.specs.Plain.{plain}
use Rattle.lq_env.specs.Environments.{env_of}
use Rattle.lq_evars.specs.Places.{store_of}
use Rattle.lq_elab.specs.States.{givens_of}
use Rattle.lq_solving.specs.Elaboration.{found}
use Rattle.lq_terms.specs.Terms.{tree_of}
use Rattle.lq_tactics.specs.Rows.{term_of}
use Rattle.lq_prims.specs.Building.{built_done}
use Rattle.lq_prims.specs.Scenes.{context_at, scene_in}
use Rattle.lq_prims.proofs.SceneLaws.{kind_stands, placed_scene}
use Rattle.lq_prims.proofs.TermLaws.{found_once}
use Rattle.lq_prims.proofs.WorkLaws.{comes_is_given}
use Rattle.lq_prims.proofs.RefineLaws.{refine_found, refine_term, refine_reaches}
use Rattle.lq_prims.proofs.refining.do_refine.Goals as goal

pub term_of-requires-clause-wanted_stands : goal.term_of-requires-clause-wanted_stands
term_of-requires-clause-wanted_stands g c = kind_stands c.args.work.now.bank.now c.args.env.now c.args.store.now c.args.goal c.args.kind c.requires.placed

pub returns-in-Ok-clause-answer : goal.returns-in-Ok-clause-answer
returns-in-Ok-clause-answer g c =
    let bank = c.args.work.now.bank.now in
    let mid = c.term_of.new.work.bank.now in
    let p = c.args.store.now in
    let S = store_of bank p in
    let E = env_of bank c.args.env.now in
    let G = context_at S c.args.goal in
    let T = tree_of bank c.args.kind in
    let vs = givens_of bank c.args.values.now in
    let t = plain c.args.term.now in
    let b = c.args.work.now.ticks.now.left in
    let l = c.term_of.new.work.ticks.now.left in
    let f = found (store_of mid c.term_of.new.store) (tree_of mid c.in-Ok.found.term) (tree_of mid c.in-Ok.found.kind) in
    let new = c.refined.new.work.bank.now in
    let left = c.refined.new.work.ticks.now.left in
    refine_term E S c.args.goal G T vs t b l f (c.in-Ok.ensures.answer T) new (built_done new c.refined.new.store) c.refined.result left
    (c.refined.ensures.answer (λ n. scene_in bank c.args.env.now p c.args.goal c.args.kind vs n) (λ n. refl) S (sym (c.count-before.ensures.told bank)))

pub returns-in-Ok-clause-reached : goal.returns-in-Ok-clause-reached
returns-in-Ok-clause-reached g c =
    let bank = c.args.work.now.bank.now in
    let mid = c.term_of.new.work.bank.now in
    let p = c.args.store.now in
    let S = store_of bank p in
    let E = env_of bank c.args.env.now in
    let G = context_at S c.args.goal in
    let T = tree_of bank c.args.kind in
    let vs = givens_of bank c.args.values.now in
    let t = plain c.args.term.now in
    let b = c.args.work.now.ticks.now.left in
    let l = c.term_of.new.work.ticks.now.left in
    let f = found (store_of mid c.term_of.new.store) (tree_of mid c.in-Ok.found.term) (tree_of mid c.in-Ok.found.kind) in
    let new = c.refined.new.work.bank.now in
    let left = c.refined.new.work.ticks.now.left in
    let stands = c.in-Ok.ensures.stands in
    refine_reaches E S c.args.goal G T vs t b new (built_done new c.refined.new.store) c.refined.result left (scene_in bank c.args.env.now p c.args.goal c.args.kind [] 0)
    (refine_term E S c.args.goal G T vs t b l f (c.in-Ok.ensures.answer T) new (built_done new c.refined.new.store) c.refined.result left
    (c.refined.ensures.answer (λ n. scene_in bank c.args.env.now p c.args.goal c.args.kind vs n) (λ n. refl) S (sym (c.count-before.ensures.told bank))))
    (placed_scene bank c.args.env.now p c.args.goal c.args.kind c.requires.placed vs (suc b) c.requires.values_stand)
    (found_once (scene_in bank c.args.env.now p c.args.goal c.args.kind vs (suc b)) t (Some T) f
    (comes_is_given (λ n. term_of (scene_in bank c.args.env.now p c.args.goal c.args.kind vs n) t (Some T)) b l f (c.in-Ok.ensures.answer T)) (stands.grown, stands.term_stands, stands.kind_stands)) refl refl

pub returns-in-Err-clause-answer : goal.returns-in-Err-clause-answer
returns-in-Err-clause-answer g c =
    let bank = c.args.work.now.bank.now in
    let S = store_of bank c.args.store.now in
    let T = tree_of bank c.args.kind in
    refine_found (env_of bank c.args.env.now) S c.args.goal (context_at S c.args.goal) T (givens_of bank c.args.values.now) (plain c.args.term.now) c.args.work.now.ticks.now.left c.term_of.new.work.bank.now c.in-Err.fault
    c.term_of.new.work.ticks.now.left (c.in-Err.ensures.answer T)
