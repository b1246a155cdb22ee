use Rattle.std.proofs.Common.{◌<◌, ◌∙◌, sym, length}
use Rattle.std.proofs.Common.{subst as along}
use Rattle.std.specs.List.{AllByRecursion}
use Rattle.lq_trees.specs.Ticks.{done, ComesTo}
use Rattle.lq_terms.specs.Contexts.{context_of}
use Rattle.lq_terms.specs.Terms.{tree_of}
use Rattle.lq_terms.proofs.Growth.{Grows-trans}
use Rattle.lq_solving.specs.Kept.{IsStore}
use Rattle.lq_evars.specs.Places.{store_of}
use Rattle.lq_evars.proofs.Growing.{HasStore-grown, store_of-grown}
use Rattle.lq_tactics.specs.Rows.{as_goals}
use Rattle.lq_prims.specs.Opening.{opening_of}
use Rattle.lq_prims.specs.Working.{Refuses}
use Rattle.lq_prims.proofs.ApplyLaws.{goals_not, goals_unsettled, opening_built}
use Rattle.lq_prims.proofs.applying.applied_to.Goals as goal

pub as_goals-requires-clause-store : goal.as_goals-requires-clause-store
as_goals-requires-clause-store g c = HasStore-grown c.args.work.now.bank.now c.left_of.new.bank c.in-Ok.ensures.grows c.args.opening.store c.requires.opening.place.store

pub as_goals-requires-clause-kept : goal.as_goals-requires-clause-kept
as_goals-requires-clause-kept g c =
    along IsStore (sym (store_of-grown c.args.work.now.bank.now c.left_of.new.bank c.in-Ok.ensures.grows c.args.opening.store c.requires.opening.place.store)) c.requires.opening.place.kept

pub as_goals-requires-clause-goals : goal.as_goals-requires-clause-goals
as_goals-requires-clause-goals g c = along (AllByRecursion (λ k. k < length c.args.opening.store.variables)) (sym c.as_slice.ensures.value) c.in-Ok.ensures.inside

pub returns-in-Ok-as_goals-clause-answer : goal.returns-in-Ok-as_goals-clause-answer
returns-in-Ok-as_goals-clause-answer g c f bound at s e =
    let old = c.args.work.now.bank.now in
    let mid = c.left_of.new.bank in
    let new = c.as_goals.new.work.bank.now in
    let o = opening_of old c.args.opening in
    let b = c.args.work.now.ticks.now.left in
    let left = c.as_goals.new.work.ticks.now.left in
    let ks = c.in-Ok.built.goals.items in
    let s1 = store_of new c.as_goals.new.store in
    opening_built f c.args.strict s (tree_of old c.args.term) o ks (c.in-Ok.ensures.answer s e) b left s1
    (along (λ z. ComesTo (λ n. as_goals (f n) z ks) b (done s1 left)) (store_of-grown old mid c.in-Ok.ensures.grows c.args.opening.store c.requires.opening.place.store)
    (along (λ z. ComesTo (λ n. as_goals (f n) (store_of mid c.args.opening.store) z) b (done s1 left)) c.as_slice.ensures.value (c.in-Ok-as_goals.ensures.answer f bound)))
    (context_of old c.args.context.now) at (tree_of new c.in-Ok.built.body) (c.in-Ok-as_goals.ensures.grows.tree c.in-Ok.built.body c.in-Ok.ensures.body.has ∙ c.in-Ok.ensures.body.is)

pub returns-in-Ok-as_goals-clause-grows : goal.returns-in-Ok-as_goals-clause-grows
returns-in-Ok-as_goals-clause-grows g c = Grows-trans c.args.work.now.bank.now c.left_of.new.bank c.as_goals.new.work.bank.now c.in-Ok.ensures.grows c.in-Ok-as_goals.ensures.grows

pub returns-in-Ok-clause-answer : goal.returns-in-Ok-clause-answer
returns-in-Ok-clause-answer g c f bound at s e =
    let old = c.args.work.now.bank.now in
    let mid = c.left_of.new.bank in
    let new = c.as_goals.new.work.bank.now in
    let o = opening_of old c.args.opening in
    let b = c.args.work.now.ticks.now.left in
    let left = c.as_goals.new.work.ticks.now.left in
    let ks = c.in-Ok.built.goals.items in
    goals_unsettled f c.args.strict s (tree_of old c.args.term) o ks (c.in-Ok.ensures.answer s e) b left new c.in-Err-as_goals.fault
    (along (λ z. Refuses new c.in-Err-as_goals.fault (λ n. as_goals (f n) z ks) b left) (store_of-grown old mid c.in-Ok.ensures.grows c.args.opening.store c.requires.opening.place.store)
    (along (λ z. Refuses new c.in-Err-as_goals.fault (λ n. as_goals (f n) (store_of mid c.args.opening.store) z) b left) c.as_slice.ensures.value (c.in-Err-as_goals.ensures.answer f bound)))

pub returns-in-Ok-clause-grows : goal.returns-in-Ok-clause-grows
returns-in-Ok-clause-grows g c = Grows-trans c.args.work.now.bank.now c.left_of.new.bank c.as_goals.new.work.bank.now c.in-Ok.ensures.grows c.in-Err-as_goals.ensures.grows

pub returns-clause-answer : goal.returns-clause-answer
returns-clause-answer g c f bound at s e =
    let old = c.args.work.now.bank.now in
    goals_not f c.args.strict s (tree_of old c.args.term) (opening_of old c.args.opening) c.left_of.new.bank c.in-Err.fault c.args.work.now.ticks.now.left (c.in-Err.ensures.answer s e c.args.work.now.ticks.now.left)
