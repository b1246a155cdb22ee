use Rattle.std.proofs.Common.{◌∙◌, refl, sym, suc, [], None}
use Rattle.std.proofs.Common.{subst as along}
use Rattle.lq_ast.specs.Plain.{plain}
use Rattle.lq_terms.specs.Contexts.{context_of}
use Rattle.lq_terms.specs.Terms.{tree_of}
use Rattle.lq_env.specs.Environments.{env_of}
use Rattle.lq_solving.specs.Kept.{StandsIn}
use Rattle.lq_solving.specs.Elaboration.{found}
use Rattle.lq_solving.proofs.ElabKept.{Grown}
use Rattle.lq_evars.specs.Places.{store_of}
use Rattle.lq_elab.specs.States.{givens_of}
use Rattle.lq_tactics.specs.Rows.{term_of}
use Rattle.lq_prims.specs.Building.{built_done}
use Rattle.lq_prims.specs.Scenes.{context_at, scene_in}
use Rattle.lq_prims.proofs.SceneLaws.{goal_context, kind_stands, placed_scene}
use Rattle.lq_prims.proofs.WorkLaws.{comes_is_given}
use Rattle.lq_prims.proofs.MakingLaws.{goal_in, in_later, term_later, same_context}
use Rattle.lq_prims.proofs.TermLaws.{found_once}
use Rattle.lq_prims.proofs.BuildLaws.{cut_found, cut_term, cut_reaches}
use Rattle.lq_prims.proofs.cutting.do_cut.Goals as goal

pub cut_goals-requires-clause-place : goal.cut_goals-requires-clause-place
cut_goals-requires-clause-place g c =
    let bank = c.args.work.now.bank.now in
    let mid = c.term_of.new.work.bank.now in
    let p = c.args.store.now in
    let hs = c.in-Ok.context in
    let gc = goal_context bank p c.args.goal c.requires.placed.place hs (λ v e. c.in-Ok.ensures ∙ c.context.ensures.place v e) in
    let at = goal_in bank p c.args.goal c.requires.placed.place hs gc in
    let found = c.in-Ok-term_of.ensures.stands in
    let grows = c.in-Ok-term_of.ensures.grows in
    let grown : Grown (store_of bank p) (store_of mid c.term_of.new.store) = found.grown in
    in_later bank mid grows p hs at c.term_of.new.store found.store grown

pub cut_goals-requires-clause-kind : goal.cut_goals-requires-clause-kind
cut_goals-requires-clause-kind g c =
    let bank = c.args.work.now.bank.now in
    let mid = c.term_of.new.work.bank.now in
    let p = c.args.store.now in
    let hs = c.in-Ok.context in
    let gc = goal_context bank p c.args.goal c.requires.placed.place hs (λ v e. c.in-Ok.ensures ∙ c.context.ensures.place v e) in
    let at = goal_in bank p c.args.goal c.requires.placed.place hs gc in
    let found = c.in-Ok-term_of.ensures.stands in
    let grows = c.in-Ok-term_of.ensures.grows in
    let grown : Grown (store_of bank p) (store_of mid c.term_of.new.store) = found.grown in
    term_later bank mid grows p hs at c.term_of.new.store found.store grown c.args.kind
    (record { has = c.requires.placed.kind; stands = along (λ z. StandsIn (store_of bank p) z (tree_of bank c.args.kind)) (sym gc.is) (kind_stands bank c.args.env.now p c.args.goal c.args.kind c.requires.placed) })

pub cut_goals-requires-clause-term : goal.cut_goals-requires-clause-term
cut_goals-requires-clause-term g c =
    let bank = c.args.work.now.bank.now in
    let mid = c.term_of.new.work.bank.now in
    let p = c.args.store.now in
    let hs = c.in-Ok.context in
    let gc = goal_context bank p c.args.goal c.requires.placed.place hs (λ v e. c.in-Ok.ensures ∙ c.context.ensures.place v e) in
    let at = goal_in bank p c.args.goal c.requires.placed.place hs gc in
    let found = c.in-Ok-term_of.ensures.stands in
    let grows = c.in-Ok-term_of.ensures.grows in
    let grown : Grown (store_of bank p) (store_of mid c.term_of.new.store) = found.grown in
    record {
      has = found.term;
      stands = along (λ z. StandsIn (store_of mid c.term_of.new.store) z (tree_of mid c.in-Ok-term_of.found.term)) (sym (same_context bank mid grows p hs at ∙ gc.is)) found.term_stands;
    }

pub returns-in-Ok-term_of-clause-answer : goal.returns-in-Ok-term_of-clause-answer
returns-in-Ok-term_of-clause-answer g c =
    let bank = c.args.work.now.bank.now in
    let mid = c.term_of.new.work.bank.now in
    let p = c.args.store.now in
    let hs = c.in-Ok.context in
    let gc = goal_context bank p c.args.goal c.requires.placed.place hs (λ v e. c.in-Ok.ensures ∙ c.context.ensures.place v e) in
    let at = goal_in bank p c.args.goal c.requires.placed.place hs gc in
    let found = c.in-Ok-term_of.ensures.stands in
    let grows = c.in-Ok-term_of.ensures.grows in
    let grown : Grown (store_of bank p) (store_of mid c.term_of.new.store) = found.grown in
    let new = c.cut_goals.new.work.bank.now in
    let T = tree_of bank c.args.kind in
    let l = c.term_of.new.work.ticks.now.left in
    cut_term (env_of bank c.args.env.now) (store_of bank p) c.args.goal (context_at (store_of bank p) c.args.goal) T (givens_of bank c.args.values.now) (plain c.args.term.now) c.args.work.now.ticks.now.left l
    (Rattle.lq_solving.specs.Elaboration.found (store_of mid c.term_of.new.store) (tree_of mid c.in-Ok-term_of.found.term) (tree_of mid c.in-Ok-term_of.found.kind)) (c.in-Ok-term_of.ensures.answer T)
    (context_of mid hs) (tree_of mid c.args.kind) (same_context bank mid grows p hs at ∙ gc.is) (grows.tree c.args.kind c.requires.placed.kind)
    new (built_done new c.cut_goals.new.store) c.cut_goals.result c.cut_goals.new.work.ticks.now.left
    (c.cut_goals.ensures.answer (λ n. scene_in bank c.args.env.now p c.args.goal c.args.kind (givens_of bank c.args.values.now) n) (λ n. refl))

pub returns-in-Ok-term_of-clause-reached : goal.returns-in-Ok-term_of-clause-reached
returns-in-Ok-term_of-clause-reached g c =
    let bank = c.args.work.now.bank.now in
    let mid = c.term_of.new.work.bank.now in
    let p = c.args.store.now in
    let hs = c.in-Ok.context in
    let gc = goal_context bank p c.args.goal c.requires.placed.place hs (λ v e. c.in-Ok.ensures ∙ c.context.ensures.place v e) in
    let at = goal_in bank p c.args.goal c.requires.placed.place hs gc in
    let found = c.in-Ok-term_of.ensures.stands in
    let grows = c.in-Ok-term_of.ensures.grows in
    let grown : Grown (store_of bank p) (store_of mid c.term_of.new.store) = found.grown in
    let new = c.cut_goals.new.work.bank.now in
    let T = tree_of bank c.args.kind in
    let l = c.term_of.new.work.ticks.now.left in
    let b = c.args.work.now.ticks.now.left in
    let vs = givens_of bank c.args.values.now in
    let A = plain c.args.term.now in
    let S = store_of bank p in
    let G = context_at S c.args.goal in
    let f = Rattle.lq_solving.specs.Elaboration.found (store_of mid c.term_of.new.store) (tree_of mid c.in-Ok-term_of.found.term) (tree_of mid c.in-Ok-term_of.found.kind) in
    let E = env_of bank c.args.env.now in
    cut_reaches E S c.args.goal G T vs A b new (built_done new c.cut_goals.new.store) c.cut_goals.result c.cut_goals.new.work.ticks.now.left (scene_in bank c.args.env.now p c.args.goal c.args.kind [] 0)
    (cut_term E S c.args.goal G T vs A b l f (c.in-Ok-term_of.ensures.answer T) (context_of mid hs) (tree_of mid c.args.kind) (same_context bank mid grows p hs at ∙ gc.is) (grows.tree c.args.kind c.requires.placed.kind)
    new (built_done new c.cut_goals.new.store) c.cut_goals.result c.cut_goals.new.work.ticks.now.left
    (c.cut_goals.ensures.answer (λ n. scene_in bank c.args.env.now p c.args.goal c.args.kind vs n) (λ n. refl)))
    (placed_scene bank c.args.env.now p c.args.goal c.args.kind c.requires.placed vs (suc b) c.requires.values_stand)
    (found_once (scene_in bank c.args.env.now p c.args.goal c.args.kind vs (suc b)) A None f (comes_is_given (λ n. term_of (scene_in bank c.args.env.now p c.args.goal c.args.kind vs n) A None) b l f (c.in-Ok-term_of.ensures.answer T))
    (found.grown, found.term_stands, found.kind_stands)) refl refl

pub returns-clause-answer : goal.returns-clause-answer
returns-clause-answer g c =
    let bank = c.args.work.now.bank.now in
    let p = c.args.store.now in
    let T = tree_of bank c.args.kind in
    cut_found (env_of bank c.args.env.now) (store_of bank p) c.args.goal (context_at (store_of bank p) c.args.goal) T (givens_of bank c.args.values.now) (plain c.args.term.now) c.args.work.now.ticks.now.left
    c.term_of.new.work.bank.now c.in-Err-term_of.fault c.term_of.new.work.ticks.now.left (c.in-Err-term_of.ensures.answer T)
