use Rattle.std.proofs.Common.{◌∙◌, refl, sym, ap, [], reverse}
use Rattle.std.proofs.Common.{subst as along}
use Rattle.lq_trees.specs.Tree.Tree.{Var}
use Rattle.lq_trees.specs.Ticks.{done, ComesTo}
use Rattle.lq_terms.specs.Terms.{Grows, tree_of, text_of}
use Rattle.lq_env.specs.Environments.{env_of}
use Rattle.lq_solving.specs.Stores.{names_at}
use Rattle.lq_solving.specs.Kept.{IsContext, StandsIn, Stands}
use Rattle.lq_evars.specs.Places.{store_of}
use Rattle.lq_evars.proofs.Growing.{store_of-grown, HasStore-grown}
use Rattle.lq_tactics.specs.Rows.{done_by, given_to}
use Rattle.lq_tactics.specs.Primitives.{first_assumption}
use Rattle.lq_prims.specs.Scenes.{scene_by, scene_in, context_at, step_by}
use Rattle.lq_prims.specs.Working.{Refuses}
use Rattle.lq_prims.proofs.SceneLaws.{goal_context, goal_grown, context_stands, names_are, kind_stands, kind_is}
use Rattle.lq_prims.proofs.AssumptionLaws.{found_stands, given_as}
use Rattle.lq_prims.proofs.WorkLaws.{handed_on, refuses_ended, does_ended, does_at_once}
use Rattle.lq_prims.proofs.assumption.assumption.Goals as goal

pub fitting-requires-clause-context : goal.fitting-requires-clause-context
fitting-requires-clause-context g c = (goal_context c.args.work.now.bank.now c.args.store.now c.args.goal c.requires.placed.place c.context.result.now (λ v e. c.context.ensures.place v e)).has

pub fitting-requires-clause-hypotheses : goal.fitting-requires-clause-hypotheses
fitting-requires-clause-hypotheses g c =
    along (IsContext (store_of c.args.work.now.bank.now c.args.store.now)) (sym (goal_context c.args.work.now.bank.now c.args.store.now c.args.goal c.requires.placed.place c.context.result.now (λ v e. c.context.ensures.place v e)).is)
    (context_stands c.args.work.now.bank.now c.args.store.now c.args.goal c.requires.placed.place)

pub fitting-requires-clause-stands : goal.fitting-requires-clause-stands
fitting-requires-clause-stands g c =
    along (λ z. StandsIn (store_of c.args.work.now.bank.now c.args.store.now) z (tree_of c.args.work.now.bank.now c.args.kind))
    (sym (goal_context c.args.work.now.bank.now c.args.store.now c.args.goal c.requires.placed.place c.context.result.now (λ v e. c.context.ensures.place v e)).is)
    (kind_stands c.args.work.now.bank.now c.args.env.now c.args.store.now c.args.goal c.args.kind c.requires.placed)

pub fitting-requires-clause-is : goal.fitting-requires-clause-is
fitting-requires-clause-is g c = kind_is c.args.work.now.bank.now c.args.env.now c.args.store.now c.args.goal c.args.kind c.requires.placed

pub returns-in_err-found-clause-answer : goal.returns-in_err-found-clause-answer
returns-in_err-found-clause-answer g c vs =
    let bank = c.args.work.now.bank.now in
    let s = store_of bank c.args.store.now in
    let b = c.args.work.now.ticks.now.left in
    let left = c.fitting.new.work.ticks.now.left in
    let is = (goal_context bank c.args.store.now c.args.goal c.requires.placed.place c.context.result.now (λ v e. c.context.ensures.place v e)).is in
    handed_on c.fitting.new.work.bank.now _ c.from_residual.result c.in_err-found.field-0.0 _ b left c.from_residual.ensures.1
    (refuses_ended (λ n. scene_in bank c.args.env.now c.args.store.now c.args.goal c.args.kind vs n) c.args.goal (λ n. refl)
    (λ n. first_assumption (scene_in bank c.args.env.now c.args.store.now c.args.goal c.args.kind vs n) (reverse (context_at s c.args.goal))) c.fitting.new.work.bank.now c.in_err-found.field-0.0 b left
    (along (λ z. Refuses c.fitting.new.work.bank.now c.in_err-found.field-0.0 (λ n. first_assumption (scene_by (env_of bank c.args.env.now) s c.args.goal z (tree_of bank c.args.kind) vs n) (reverse z)) b left) is
    (c.in_err-found.ensures.answer c.args.goal vs)))

pub give-requires-clause-store : goal.give-requires-clause-store
give-requires-clause-store g c =
    HasStore-grown c.args.work.now.bank.now c.make.new.self (along (λ z. Grows z c.make.new.self) c.in_ok-found.ensures.unchanged c.make.ensures.grows) c.args.store.now c.requires.placed.place.store

pub give-requires-clause-kept : goal.give-requires-clause-kept
give-requires-clause-kept g c =
    (goal_grown c.args.work.now.bank.now c.make.new.self (along (λ z. Grows z c.make.new.self) c.in_ok-found.ensures.unchanged c.make.ensures.grows) c.args.store.now c.args.goal c.requires.placed.place).kept

pub give-requires-clause-stands : goal.give-requires-clause-stands
give-requires-clause-stands g c =
    let bank = c.args.work.now.bank.now in
    let s = store_of bank c.args.store.now in
    let grows = along (λ z. Grows z c.make.new.self) c.in_ok-found.ensures.unchanged c.make.ensures.grows in
    let is = (goal_context bank c.args.store.now c.args.goal c.requires.placed.place c.context.result.now (λ v e. c.context.ensures.place v e)).is in
    along (λ z. Stands z (names_at z.variables c.args.goal) (tree_of c.make.new.self c.in_ok-body.body)) (sym (store_of-grown bank c.make.new.self grows c.args.store.now c.requires.placed.place.store))
    (found_stands bank c.make.new.self s c.args.goal c.context.result.now c.in_ok-found.found c.in_ok-body.body (names_are bank c.args.store.now c.args.goal c.requires.placed.place) is c.in_ok-found.ensures.listed
    (c.in_ok-body.ensures.made.is ∙ ap (λ z. Var (text_of z c.in_ok-found.found)) c.in_ok-found.ensures.unchanged))

pub returns-clause-answer : goal.returns-clause-answer
returns-clause-answer g c vs =
    let bank = c.args.work.now.bank.now in
    let s = store_of bank c.args.store.now in
    let b = c.args.work.now.ticks.now.left in
    let l = c.fitting.new.work.ticks.now.left in
    let grows = along (λ z. Grows z c.make.new.self) c.in_ok-found.ensures.unchanged c.make.ensures.grows in
    let is = (goal_context bank c.args.store.now c.args.goal c.requires.placed.place c.context.result.now (λ v e. c.context.ensures.place v e)).is in
    let d = done_by s (Var (text_of bank c.in_ok-found.found)) [] in
    does_ended (λ n. scene_in bank c.args.env.now c.args.store.now c.args.goal c.args.kind vs n) c.args.goal (λ n. refl)
    (λ n. first_assumption (scene_in bank c.args.env.now c.args.store.now c.args.goal c.args.kind vs n) (reverse (context_at s c.args.goal))) c.give.new.bank (λ u. step_by (store_of c.give.new.bank c.give.new.store) []) c.give.result b l l d
    (along (λ z. ComesTo (λ n. first_assumption (scene_by (env_of bank c.args.env.now) s c.args.goal z (tree_of bank c.args.kind) vs n) (reverse z)) b (done d l)) is (c.in_ok-found.ensures.answer c.args.goal vs))
    (does_at_once c.give.new.bank (λ u. step_by (store_of c.give.new.bank c.give.new.store) []) c.give.result (given_to c.args.goal d)
    (given_as c.give.new.bank (λ u. step_by (store_of c.give.new.bank c.give.new.store) []) c.give.result c.args.goal (store_of c.make.new.self c.args.store.now) s (tree_of c.make.new.self c.in_ok-body.body) (Var (text_of bank c.in_ok-found.found))
    (store_of-grown bank c.make.new.self grows c.args.store.now c.requires.placed.place.store) (c.in_ok-body.ensures.made.is ∙ ap (λ z. Var (text_of z c.in_ok-found.found)) c.in_ok-found.ensures.unchanged) (c.give.ensures.answer [])) l)
