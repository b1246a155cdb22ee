use Rattle.std.proofs.Common.{◌∙◌, sym, ap}
use Rattle.std.proofs.Common.{subst as along}
use Rattle.lq_terms.specs.Terms.{tree_of}
use Rattle.lq_env.specs.Environments.{env_of}
use Rattle.lq_solving.specs.Kept.{StandsIn}
use Rattle.lq_evars.specs.Places.{store_of}
use Rattle.lq_tactics.specs.Primitives.{is_binder}
use Rattle.lq_prims.specs.Scenes.{context_at, form_work}
use Rattle.lq_prims.specs.Working.{Does}
use Rattle.lq_prims.proofs.SceneLaws.{goal_context, site_of, kind_stands}
use Rattle.lq_prims.proofs.LaterLaws.{binder_yes}
use Rattle.lq_prims.proofs.IntroLaws.{form_now, form_later}
use Rattle.lq_prims.proofs.introducing.binder_form.Goals as goal

pub head-requires-clause-site : goal.head-requires-clause-site
head-requires-clause-site g c =
    site_of c.args.work.now.bank.now c.args.env.now c.args.store.now c.args.goal c.requires.placed.declared c.requires.placed.place c.context.result.now
    (goal_context c.args.work.now.bank.now c.args.store.now c.args.goal c.requires.placed.place c.context.result.now (λ v e. c.context.ensures.place v e))

pub head-requires-clause-term : goal.head-requires-clause-term
head-requires-clause-term g c =
    along (λ z. StandsIn (store_of c.args.work.now.bank.now c.args.store.now) z (tree_of c.args.work.now.bank.now c.args.kind))
    (sym (goal_context c.args.work.now.bank.now c.args.store.now c.args.goal c.requires.placed.place c.context.result.now (λ v e. c.context.ensures.place v e)).is)
    (kind_stands c.args.work.now.bank.now c.args.env.now c.args.store.now c.args.goal c.args.kind c.requires.placed)

pub returns-in-Some-clause-answer : goal.returns-in-Some-clause-answer
returns-in-Some-clause-answer g c vs =
    let bank = c.args.work.now.bank.now in
    let s = store_of bank c.args.store.now in
    form_now (env_of bank c.args.env.now) s c.args.goal (context_at s c.args.goal) (tree_of bank c.args.kind) vs bank c.args.work.now.ticks.now.left (ap is_binder c.in-Some.ensures.1 ∙ binder_yes bank c.in-Some.field-0)

pub returns-in-None-clause-answer : goal.returns-in-None-clause-answer
returns-in-None-clause-answer g c vs =
    let bank = c.args.work.now.bank.now in
    let s = store_of bank c.args.store.now in
    let b = c.args.work.now.ticks.now.left in
    let new = c.head.new.work.bank.now in
    form_later (env_of bank c.args.env.now) s c.args.goal (context_at s c.args.goal) (tree_of bank c.args.kind) vs new (tree_of new) c.head.result b c.head.new.work.ticks.now.left c.in-None.ensures
    (along (λ z. Does new (tree_of new) c.head.result (form_work (env_of bank c.args.env.now) s z (tree_of bank c.args.kind)) b c.head.new.work.ticks.now.left)
    (goal_context bank c.args.store.now c.args.goal c.requires.placed.place c.context.result.now (λ v e. c.context.ensures.place v e)).is c.head.ensures.answer)
