use Rattle.std.proofs.Common.{◌∙◌, sym}
use Rattle.std.proofs.Common.{subst as along}
use Rattle.lq_ast.specs.Plain.{plain}
use Rattle.lq_trees.specs.Ticks.{done, ComesTo}
use Rattle.lq_terms.specs.Terms.{tree_of}
use Rattle.lq_env.specs.Environments.{env_of}
use Rattle.lq_env.proofs.Grown.{env_of-grown}
use Rattle.lq_solving.specs.Elaboration.{found, found_sort}
use Rattle.lq_evars.specs.Places.{store_of}
use Rattle.lq_elab.specs.States.{givens_of}
use Rattle.lq_tactics.specs.Rows.{site}
use Rattle.lq_tactics.specs.Primitives.{type_term}
use Rattle.lq_prims.specs.Scenes.{context_at, scene_by}
use Rattle.lq_typing.specs.Refusals.{Refuses as ElabRefuses}
use Rattle.lq_prims.specs.declared.faults.PrimFault.{PrimFault}
use Rattle.lq_prims.specs.Working.{Refuses}
use Rattle.lq_prims.proofs.SceneLaws.{declared_grown}
use Rattle.lq_prims.proofs.AfterLaws.{context_then, in_then, type_then}
use Rattle.lq_prims.proofs.ElabWorks.{elab_found, elab_refused}
use Rattle.lq_prims.proofs.AssertLaws.{type_refused, type_unsorted, type_sorted}
use Rattle.lq_prims.proofs.TermLaws.{found_as}
use Rattle.lq_prims.proofs.AfterLaws.{elaborated_grown}
use Rattle.lq_prims.proofs.asserting.type_term.Goals as goal

pub sort_of-requires-clause-env : goal.sort_of-requires-clause-env
sort_of-requires-clause-env g c = (declared_grown c.args.work.now.bank.now c.term_of.new.work.bank.now c.in-Ok-term_of.ensures.grows c.args.env.now c.requires.declared).env

pub sort_of-requires-clause-plain : goal.sort_of-requires-clause-plain
sort_of-requires-clause-plain g c = (declared_grown c.args.work.now.bank.now c.term_of.new.work.bank.now c.in-Ok-term_of.ensures.grows c.args.env.now c.requires.declared).plain

pub sort_of-requires-clause-kept : goal.sort_of-requires-clause-kept
sort_of-requires-clause-kept g c = (in_then c.args.work.now.bank.now c.args.store.now c.args.goal c.requires.place c.in-Ok.context (λ v e. c.in-Ok.ensures ∙ c.context.ensures.place v e) c.term_of.new.work.bank.now c.in-Ok-term_of.ensures.grows c.term_of.new.store c.in-Ok-term_of.found c.in-Ok-term_of.ensures.stands).kept

pub sort_of-requires-clause-context : goal.sort_of-requires-clause-context
sort_of-requires-clause-context g c = (in_then c.args.work.now.bank.now c.args.store.now c.args.goal c.requires.place c.in-Ok.context (λ v e. c.in-Ok.ensures ∙ c.context.ensures.place v e) c.term_of.new.work.bank.now c.in-Ok-term_of.ensures.grows c.term_of.new.store c.in-Ok-term_of.found c.in-Ok-term_of.ensures.stands).has

pub sort_of-requires-clause-hypotheses : goal.sort_of-requires-clause-hypotheses
sort_of-requires-clause-hypotheses g c = (in_then c.args.work.now.bank.now c.args.store.now c.args.goal c.requires.place c.in-Ok.context (λ v e. c.in-Ok.ensures ∙ c.context.ensures.place v e) c.term_of.new.work.bank.now c.in-Ok-term_of.ensures.grows c.term_of.new.store c.in-Ok-term_of.found c.in-Ok-term_of.ensures.stands).stands

pub sort_of-requires-clause-stands : goal.sort_of-requires-clause-stands
sort_of-requires-clause-stands g c = (type_then c.args.work.now.bank.now c.args.store.now c.args.goal c.requires.place c.in-Ok.context (λ v e. c.in-Ok.ensures ∙ c.context.ensures.place v e) c.term_of.new.work.bank.now c.in-Ok-term_of.ensures.grows c.term_of.new.store c.in-Ok-term_of.found c.in-Ok-term_of.ensures.stands).stands

pub returns-in-Ok-sort_of-clause-answer : goal.returns-in-Ok-sort_of-clause-answer
returns-in-Ok-sort_of-clause-answer g c T =
    let bank = c.args.work.now.bank.now in
    let mid = c.term_of.new.work.bank.now in
    let new = c.sort_of.new.work.bank.now in
    let S = store_of bank c.args.store.now in
    let E = env_of bank c.args.env.now in
    let G = context_at S c.args.goal in
    let vs = givens_of bank c.args.values.now in
    let b = c.args.work.now.ticks.now.left in
    let l = c.term_of.new.work.ticks.now.left in
    let left = c.sort_of.new.work.ticks.now.left in
    let e = c.in-Ok-term_of.found in
    let f = found (store_of mid c.term_of.new.store) (tree_of mid e.term) (tree_of mid e.kind) in
    let k = c.args.goal in
    along (λ z. ComesTo (λ n. type_term (scene_by E S k G T vs n) (plain c.args.term.now)) b (done z left))
    (sym (found_as mid new c.in-Ok-sort_of.ensures.grows c.term_of.new.store c.in-Ok-term_of.ensures.stands.store e.term e.kind c.in-Ok-term_of.ensures.stands.term c.in-Ok-term_of.ensures.stands.kind))
    (type_sorted E S k G T vs (plain c.args.term.now) b l f (c.in-Ok-term_of.ensures.answer T) c.in-Ok-sort_of._sort left
    (elab_found (λ n. found_sort (site (scene_by E S k G T vs n)) G f) l left c.in-Ok-sort_of._sort
    (along (λ z. ComesTo (λ n. found_sort (site (scene_by E S k G T vs n)) z f) l (done c.in-Ok-sort_of._sort left)) (context_then c.args.work.now.bank.now c.args.store.now c.args.goal c.requires.place c.in-Ok.context (λ v e. c.in-Ok.ensures ∙ c.context.ensures.place v e) c.term_of.new.work.bank.now c.in-Ok-term_of.ensures.grows c.term_of.new.store c.in-Ok-term_of.found c.in-Ok-term_of.ensures.stands)
    (c.in-Ok-sort_of.ensures.answer (site (scene_by E S k G T vs 0)) f.term (env_of-grown bank mid c.in-Ok-term_of.ensures.grows c.args.env.now c.requires.declared.env)))))

pub returns-in-Ok-sort_of-clause-stands : goal.returns-in-Ok-sort_of-clause-stands
returns-in-Ok-sort_of-clause-stands g c =
    elaborated_grown c.term_of.new.work.bank.now c.sort_of.new.work.bank.now c.in-Ok-sort_of.ensures.grows (store_of c.args.work.now.bank.now c.args.store.now) c.term_of.new.store
    (context_at (store_of c.args.work.now.bank.now c.args.store.now) c.args.goal) c.in-Ok-term_of.found c.in-Ok-term_of.ensures.stands

pub returns-in-Ok-term_of-clause-answer : goal.returns-in-Ok-term_of-clause-answer
returns-in-Ok-term_of-clause-answer g c T =
    let bank = c.args.work.now.bank.now in
    let mid = c.term_of.new.work.bank.now in
    let new = c.sort_of.new.work.bank.now in
    let S = store_of bank c.args.store.now in
    let E = env_of bank c.args.env.now in
    let G = context_at S c.args.goal in
    let vs = givens_of bank c.args.values.now in
    let b = c.args.work.now.ticks.now.left in
    let l = c.term_of.new.work.ticks.now.left in
    let left = c.sort_of.new.work.ticks.now.left in
    let e = c.in-Ok-term_of.found in
    let f = found (store_of mid c.term_of.new.store) (tree_of mid e.term) (tree_of mid e.kind) in
    let k = c.args.goal in
    along (λ z. Refuses new z (λ n. type_term (scene_by E S k G T vs n) (plain c.args.term.now)) b left) (sym c.from.ensures)
    (type_unsorted E S k G T vs (plain c.args.term.now) b l f (c.in-Ok-term_of.ensures.answer T) new (PrimFault.Elab c.in-Err-sort_of.fault) left
    (elab_refused new c.in-Err-sort_of.fault (λ n. found_sort (site (scene_by E S k G T vs n)) G f) l left
    (along (λ z. ElabRefuses new c.in-Err-sort_of.fault (λ n. found_sort (site (scene_by E S k G T vs n)) z f) l left) (context_then c.args.work.now.bank.now c.args.store.now c.args.goal c.requires.place c.in-Ok.context (λ v e. c.in-Ok.ensures ∙ c.context.ensures.place v e) c.term_of.new.work.bank.now c.in-Ok-term_of.ensures.grows c.term_of.new.store c.in-Ok-term_of.found c.in-Ok-term_of.ensures.stands)
    (c.in-Err-sort_of.ensures.answer (site (scene_by E S k G T vs 0)) f.term (env_of-grown bank mid c.in-Ok-term_of.ensures.grows c.args.env.now c.requires.declared.env)))))

pub returns-clause-answer : goal.returns-clause-answer
returns-clause-answer g c T =
    let bank = c.args.work.now.bank.now in
    let S = store_of bank c.args.store.now in
    type_refused (env_of bank c.args.env.now) S c.args.goal (context_at S c.args.goal) T (givens_of bank c.args.values.now) (plain c.args.term.now) c.args.work.now.ticks.now.left
    c.term_of.new.work.bank.now c.in-Err-term_of.fault c.term_of.new.work.ticks.now.left (c.in-Err-term_of.ensures.answer T)
