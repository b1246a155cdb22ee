use Rattle.std.proofs.Common.{◌∙◌, refl, sym}
use Rattle.lq_terms.specs.Terms.{tree_of}
use Rattle.lq_evars.specs.Places.{store_of}
use Rattle.lq_prims.specs.declared.building.Built.{Built}
use Rattle.lq_prims.specs.Building.{built_done}
use Rattle.lq_prims.proofs.BuildLaws.{built_is}
use Rattle.lq_prims.proofs.RefineLaws.{refined_not, refined_done}
use Rattle.lq_prims.proofs.refining.refined.Goals as goal

pub returns-in-Ok-as_goals-clause-answer : goal.returns-in-Ok-as_goals-clause-answer
returns-in-Ok-as_goals-clause-answer g c f bound s e =
    let bank = c.args.work.now.bank.now in
    let new = c.as_goals.new.work.bank.now in
    let ks = c.as_slice.result.now in
    let built : Built = record { body = c.args.term; goals = c.in-Ok.goals } in
    refined_done f s (store_of bank c.args.store.now) (tree_of bank c.args.term) ks (c.as_slice.ensures.value ∙ c.in-Ok.ensures.goals s e) c.args.work.now.ticks.now.left c.as_goals.new.work.ticks.now.left new (built_done new c.as_goals.new.store) built
    (store_of new c.as_goals.new.store) (c.in-Ok-as_goals.ensures.answer f bound) (sym (built_is new c.as_goals.new.store built (store_of new c.as_goals.new.store) (tree_of bank c.args.term) ks refl (c.in-Ok-as_goals.ensures.grows.tree c.args.term c.requires.term) (sym c.as_slice.ensures.value)))

pub returns-in-Err-as_goals-clause-answer : goal.returns-in-Err-as_goals-clause-answer
returns-in-Err-as_goals-clause-answer g c f bound s e =
    let bank = c.args.work.now.bank.now in
    refined_not f s (store_of bank c.args.store.now) (tree_of bank c.args.term) c.as_slice.result.now (c.as_slice.ensures.value ∙ c.in-Ok.ensures.goals s e) c.args.work.now.ticks.now.left c.as_goals.new.work.ticks.now.left c.as_goals.new.work.bank.now
    c.in-Err-as_goals.fault (c.in-Err-as_goals.ensures.answer f bound)
