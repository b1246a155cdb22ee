use Rattle.std.proofs.Common.{◌∙◌, refl, sym, suc, [], None, arith}
use Rattle.std.proofs.Common.{subst as along}
use Rattle.lq_ast.specs.Plain.{plain}
use Rattle.lq_terms.specs.Contexts.{context_of}
use Rattle.lq_terms.specs.Terms.{tree_of}
use Rattle.lq_env.specs.Environments.{env_of}
use Rattle.lq_env.proofs.Grown.{env_of-grown}
use Rattle.lq_solving.specs.Kept.{StandsIn}
use Rattle.lq_solving.specs.Elaboration.{found}
use Rattle.lq_solving.proofs.ElabKept.{Grown}
use Rattle.lq_evars.specs.Places.{store_of}
use Rattle.lq_elab.specs.States.{givens_of}
use Rattle.lq_tactics.specs.Rows.{term_of}
use Rattle.lq_prims.specs.Building.{built_done}
use Rattle.lq_prims.specs.Scenes.{context_at, scene_in}
use Rattle.lq_prims.proofs.SceneLaws.{goal_context, kind_stands, placed_scene, declared_grown}
use Rattle.lq_prims.proofs.WorkLaws.{comes_is_given}
use Rattle.lq_prims.proofs.MakingLaws.{goal_in, in_later, term_later, same_context}
use Rattle.lq_prims.proofs.TermLaws.{found_once}
use Rattle.lq_prims.proofs.ApplyLaws.{found_as, apply_unfound, apply_term, apply_reaches}
use Rattle.lq_prims.proofs.applying.do_apply.Goals as goal

pub apply_found-requires-clause-declared : goal.apply_found-requires-clause-declared
apply_found-requires-clause-declared g c = declared_grown c.args.work.now.bank.now c.term_of.new.work.bank.now c.in-Ok-term_of.ensures.grows c.args.env.now c.requires.placed.declared

pub apply_found-requires-clause-place : goal.apply_found-requires-clause-place
apply_found-requires-clause-place g c =
    let bank = c.args.work.now.bank.now in
    let mid = c.term_of.new.work.bank.now in
    let p = c.args.store.now in
    let hs = c.in-Ok.context in
    let gc = goal_context bank p c.args.goal c.requires.placed.place hs (λ v e. c.in-Ok.ensures ∙ c.context.ensures.place v e) in
    let at = goal_in bank p c.args.goal c.requires.placed.place hs gc in
    let was = c.in-Ok-term_of.ensures.stands in
    let grows = c.in-Ok-term_of.ensures.grows in
    let grown : Grown (store_of bank p) (store_of mid c.term_of.new.store) = was.grown in
    in_later bank mid grows p hs at c.term_of.new.store was.store grown

pub apply_found-requires-clause-kind : goal.apply_found-requires-clause-kind
apply_found-requires-clause-kind g c =
    let bank = c.args.work.now.bank.now in
    let mid = c.term_of.new.work.bank.now in
    let p = c.args.store.now in
    let hs = c.in-Ok.context in
    let gc = goal_context bank p c.args.goal c.requires.placed.place hs (λ v e. c.in-Ok.ensures ∙ c.context.ensures.place v e) in
    let at = goal_in bank p c.args.goal c.requires.placed.place hs gc in
    let was = c.in-Ok-term_of.ensures.stands in
    let grows = c.in-Ok-term_of.ensures.grows in
    let grown : Grown (store_of bank p) (store_of mid c.term_of.new.store) = was.grown in
    term_later bank mid grows p hs at c.term_of.new.store was.store grown c.args.kind
    (record { has = c.requires.placed.kind; stands = along (λ z. StandsIn (store_of bank p) z (tree_of bank c.args.kind)) (sym gc.is) (kind_stands bank c.args.env.now p c.args.goal c.args.kind c.requires.placed) })

pub apply_found-requires-clause-term : goal.apply_found-requires-clause-term
apply_found-requires-clause-term g c =
    let bank = c.args.work.now.bank.now in
    let mid = c.term_of.new.work.bank.now in
    let p = c.args.store.now in
    let hs = c.in-Ok.context in
    let gc = goal_context bank p c.args.goal c.requires.placed.place hs (λ v e. c.in-Ok.ensures ∙ c.context.ensures.place v e) in
    let at = goal_in bank p c.args.goal c.requires.placed.place hs gc in
    let was = c.in-Ok-term_of.ensures.stands in
    let grows = c.in-Ok-term_of.ensures.grows in
    let grown : Grown (store_of bank p) (store_of mid c.term_of.new.store) = was.grown in
    record {
      has = was.term;
      stands = along (λ z. StandsIn (store_of mid c.term_of.new.store) z (tree_of mid c.in-Ok-term_of.found.term)) (sym (same_context bank mid grows p hs at ∙ gc.is)) was.term_stands;
    }

pub apply_found-requires-clause-term_kind : goal.apply_found-requires-clause-term_kind
apply_found-requires-clause-term_kind g c =
    let bank = c.args.work.now.bank.now in
    let mid = c.term_of.new.work.bank.now in
    let p = c.args.store.now in
    let hs = c.in-Ok.context in
    let gc = goal_context bank p c.args.goal c.requires.placed.place hs (λ v e. c.in-Ok.ensures ∙ c.context.ensures.place v e) in
    let at = goal_in bank p c.args.goal c.requires.placed.place hs gc in
    let was = c.in-Ok-term_of.ensures.stands in
    let grows = c.in-Ok-term_of.ensures.grows in
    let grown : Grown (store_of bank p) (store_of mid c.term_of.new.store) = was.grown in
    record {
      has = was.kind;
      stands = along (λ z. StandsIn (store_of mid c.term_of.new.store) z (tree_of mid c.in-Ok-term_of.found.kind)) (sym (same_context bank mid grows p hs at ∙ gc.is)) was.kind_stands;
    }

pub returns-in-Ok-term_of-clause-answer : goal.returns-in-Ok-term_of-clause-answer
returns-in-Ok-term_of-clause-answer g c =
    let bank = c.args.work.now.bank.now in
    let mid = c.term_of.new.work.bank.now in
    let p = c.args.store.now in
    let hs = c.in-Ok.context in
    let gc = goal_context bank p c.args.goal c.requires.placed.place hs (λ v e. c.in-Ok.ensures ∙ c.context.ensures.place v e) in
    let at = goal_in bank p c.args.goal c.requires.placed.place hs gc in
    let was = c.in-Ok-term_of.ensures.stands in
    let grows = c.in-Ok-term_of.ensures.grows in
    let new = c.apply_found.new.work.bank.now in
    let T = tree_of bank c.args.kind in
    let l = c.term_of.new.work.ticks.now.left in
    let left = c.apply_found.new.work.ticks.now.left in
    let b = c.args.work.now.ticks.now.left in
    let vs = givens_of bank c.args.values.now in
    let A = plain c.args.term.now in
    let S = store_of bank p in
    let G = context_at S c.args.goal in
    let E = env_of bank c.args.env.now in
    let f = found (store_of mid c.term_of.new.store) (tree_of mid c.in-Ok-term_of.found.term) (tree_of mid c.in-Ok-term_of.found.kind) in
    let tell = built_done new c.apply_found.new.store in
    apply_term E S c.args.goal G T vs c.args.strict A b l f (c.in-Ok-term_of.ensures.answer T) new tell c.apply_found.result left
    (found_as (env_of mid c.args.env.now) E S c.args.goal (context_of mid hs) G (tree_of mid c.args.kind) T vs c.args.strict f new tell c.apply_found.result l left (env_of-grown bank mid grows c.args.env.now c.requires.placed.declared.env)
    (same_context bank mid grows p hs at ∙ gc.is) (grows.tree c.args.kind c.requires.placed.kind) (c.apply_found.ensures.answer S c.args.goal vs (sym (c.count-before.ensures.told bank))))

pub returns-in-Ok-term_of-clause-reached : goal.returns-in-Ok-term_of-clause-reached
returns-in-Ok-term_of-clause-reached g c =
    let bank = c.args.work.now.bank.now in
    let mid = c.term_of.new.work.bank.now in
    let p = c.args.store.now in
    let hs = c.in-Ok.context in
    let gc = goal_context bank p c.args.goal c.requires.placed.place hs (λ v e. c.in-Ok.ensures ∙ c.context.ensures.place v e) in
    let at = goal_in bank p c.args.goal c.requires.placed.place hs gc in
    let was = c.in-Ok-term_of.ensures.stands in
    let grows = c.in-Ok-term_of.ensures.grows in
    let new = c.apply_found.new.work.bank.now in
    let T = tree_of bank c.args.kind in
    let l = c.term_of.new.work.ticks.now.left in
    let left = c.apply_found.new.work.ticks.now.left in
    let b = c.args.work.now.ticks.now.left in
    let vs = givens_of bank c.args.values.now in
    let A = plain c.args.term.now in
    let S = store_of bank p in
    let G = context_at S c.args.goal in
    let E = env_of bank c.args.env.now in
    let f = found (store_of mid c.term_of.new.store) (tree_of mid c.in-Ok-term_of.found.term) (tree_of mid c.in-Ok-term_of.found.kind) in
    let tell = built_done new c.apply_found.new.store in
    apply_reaches E S c.args.goal G T vs c.args.strict A b new tell c.apply_found.result left (scene_in bank c.args.env.now p c.args.goal c.args.kind [] 0)
    (apply_term E S c.args.goal G T vs c.args.strict A b l f (c.in-Ok-term_of.ensures.answer T) new tell c.apply_found.result left
    (found_as (env_of mid c.args.env.now) E S c.args.goal (context_of mid hs) G (tree_of mid c.args.kind) T vs c.args.strict f new tell c.apply_found.result l left (env_of-grown bank mid grows c.args.env.now c.requires.placed.declared.env)
    (same_context bank mid grows p hs at ∙ gc.is) (grows.tree c.args.kind c.requires.placed.kind) (c.apply_found.ensures.answer S c.args.goal vs (sym (c.count-before.ensures.told bank)))))
    (placed_scene bank c.args.env.now p c.args.goal c.args.kind c.requires.placed vs (suc b) c.requires.values_stand)
    (found_once (scene_in bank c.args.env.now p c.args.goal c.args.kind vs (suc b)) A None f (comes_is_given (λ n. term_of (scene_in bank c.args.env.now p c.args.goal c.args.kind vs n) A None) b l f (c.in-Ok-term_of.ensures.answer T))
    (was.grown, was.term_stands, was.kind_stands)) (c.has_room.ensures bank c.requires.placed.place) (omega (arith, c.args.work.now.ticks.now.bounded)) refl refl

pub returns-clause-answer : goal.returns-clause-answer
returns-clause-answer g c =
    let bank = c.args.work.now.bank.now in
    let p = c.args.store.now in
    let T = tree_of bank c.args.kind in
    apply_unfound (env_of bank c.args.env.now) (store_of bank p) c.args.goal (context_at (store_of bank p) c.args.goal) T (givens_of bank c.args.values.now) c.args.strict (plain c.args.term.now) c.args.work.now.ticks.now.left
    c.term_of.new.work.bank.now c.in-Err-term_of.fault c.term_of.new.work.ticks.now.left (c.in-Err-term_of.ensures.answer T)
