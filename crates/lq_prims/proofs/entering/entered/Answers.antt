use Rattle.std.proofs.Common.{◌∙◌}
use Rattle.lq_terms.specs.Terms.{tree_of}
use Rattle.lq_evars.specs.Places.{store_of}
use Rattle.lq_evars.proofs.Growing.{HasStore-grown}
use Rattle.lq_prims.proofs.SceneLaws.{goal_context, goal_grown}
use Rattle.lq_prims.proofs.EnterLaws.{longer_has, longer_stands, rest_stands_in, entered_does}
use Rattle.lq_prims.proofs.entering.entered.Goals as goal

pub open-requires-clause-name : goal.open-requires-clause-name
open-requires-clause-name g c = c.requires.hypothesis.name

pub new_goal-requires-clause-store : goal.new_goal-requires-clause-store
new_goal-requires-clause-store g c = HasStore-grown c.args.work.now.bank.now c.open.new.bank c.open.ensures.grows c.args.store.now c.requires.place.store

pub new_goal-requires-clause-kept : goal.new_goal-requires-clause-kept
new_goal-requires-clause-kept g c = (goal_grown c.args.work.now.bank.now c.open.new.bank c.open.ensures.grows c.args.store.now c.args.goal c.requires.place).kept

pub new_goal-requires-clause-context : goal.new_goal-requires-clause-context
new_goal-requires-clause-context g c =
    longer_has c.args.work.now.bank.now c.open.new.bank c.open.ensures.grows c.args.store.now c.args.goal c.requires.place c.hypotheses.result.now
    (goal_context c.args.work.now.bank.now c.args.store.now c.args.goal c.requires.place c.hypotheses.result.now (λ v e. c.hypotheses.ensures ∙ c.context.ensures.place v e))
    c.args.hypothesis c.requires.hypothesis c.in_ok-context.context c.in_ok-context.ensures

pub new_goal-requires-clause-hypotheses : goal.new_goal-requires-clause-hypotheses
new_goal-requires-clause-hypotheses g c =
    longer_stands c.args.work.now.bank.now c.open.new.bank c.open.ensures.grows c.args.store.now c.args.goal c.requires.place c.hypotheses.result.now
    (goal_context c.args.work.now.bank.now c.args.store.now c.args.goal c.requires.place c.hypotheses.result.now (λ v e. c.hypotheses.ensures ∙ c.context.ensures.place v e))
    c.args.hypothesis c.requires.hypothesis c.in_ok-context.context c.in_ok-context.ensures c.requires.new c.requires.body c.requires.kind

pub new_goal-requires-clause-kind : goal.new_goal-requires-clause-kind
new_goal-requires-clause-kind g c =
    rest_stands_in c.args.work.now.bank.now c.open.new.bank c.open.ensures.grows c.args.store.now c.args.goal c.requires.place c.hypotheses.result.now
    (goal_context c.args.work.now.bank.now c.args.store.now c.args.goal c.requires.place c.hypotheses.result.now (λ v e. c.hypotheses.ensures ∙ c.context.ensures.place v e))
    c.args.hypothesis c.requires.hypothesis c.in_ok-context.context c.in_ok-context.ensures c.requires.new c.requires.body c.requires.kind (tree_of c.args.work.now.bank.now c.args.rest) c.in_ok-kind.kind c.requires.rest_stands c.in_ok-kind.ensures.opened

pub returns-clause-answer : goal.returns-clause-answer
returns-clause-answer g c s e =
    entered_does c.args.work.now.bank.now c.open.new.bank c.open.ensures.grows c.args.store.now c.args.goal c.requires.place c.hypotheses.result.now
    (goal_context c.args.work.now.bank.now c.args.store.now c.args.goal c.requires.place c.hypotheses.result.now (λ v e. c.hypotheses.ensures ∙ c.context.ensures.place v e))
    c.args.hypothesis c.requires.hypothesis c.in_ok-context.context c.in_ok-context.ensures c.new_goal.new.work.bank.now (λ k. (store_of c.new_goal.new.work.bank.now c.new_goal.new.store, k)) c.new_goal.result s
    (tree_of c.args.work.now.bank.now c.args.rest) c.in_ok-kind.kind c.args.work.now.ticks.now.left c.new_goal.new.work.ticks.now.left c.in_ok-kind.ensures.opened (c.new_goal.ensures.answer s e)
