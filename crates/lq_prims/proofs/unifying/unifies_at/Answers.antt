use Rattle.std.proofs.Common.{◌∙◌, sym}
use Rattle.std.proofs.Common.{subst as along}
use Rattle.lq_calculus.specs.Declarations.{rules_of}
use Rattle.lq_terms.specs.Terms.{tree_of}
use Rattle.lq_env.specs.Environments.{env_of}
use Rattle.lq_solving.specs.Kept.{StandsIn}
use Rattle.lq_solving.specs.ElabFaults.{by_unify}
use Rattle.lq_solving.specs.Unification.{unify}
use Rattle.lq_evars.specs.Places.{store_of}
use Rattle.lq_unify.specs.Frames.{answer_of}
use Rattle.lq_tactics.specs.Rows.{elab_work}
use Rattle.lq_prims.specs.Working.{Does}
use Rattle.lq_prims.proofs.SceneLaws.{goal_context, site_of}
use Rattle.lq_prims.proofs.unifying.unifies_at.Goals as goal

pub unifies-requires-clause-site : goal.unifies-requires-clause-site
unifies-requires-clause-site g c =
    site_of c.args.work.now.bank.now c.args.env.now c.args.store.now c.args.goal c.requires.declared c.requires.place c.in_ok-context.context
    (goal_context c.args.work.now.bank.now c.args.store.now c.args.goal c.requires.place c.in_ok-context.context (λ v e. c.in_ok-context.ensures ∙ c.context.ensures.place v e))

pub unifies-requires-clause-left_stands : goal.unifies-requires-clause-left_stands
unifies-requires-clause-left_stands g c =
    along (λ z. StandsIn (store_of c.args.work.now.bank.now c.args.store.now) z (tree_of c.args.work.now.bank.now c.args.left))
    (sym (goal_context c.args.work.now.bank.now c.args.store.now c.args.goal c.requires.place c.in_ok-context.context (λ v e. c.in_ok-context.ensures ∙ c.context.ensures.place v e)).is) c.requires.left_stands

pub unifies-requires-clause-right_stands : goal.unifies-requires-clause-right_stands
unifies-requires-clause-right_stands g c =
    along (λ z. StandsIn (store_of c.args.work.now.bank.now c.args.store.now) z (tree_of c.args.work.now.bank.now c.args.right))
    (sym (goal_context c.args.work.now.bank.now c.args.store.now c.args.goal c.requires.place c.in_ok-context.context (λ v e. c.in_ok-context.ensures ∙ c.context.ensures.place v e)).is) c.requires.right_stands

pub returns-clause-answer : goal.returns-clause-answer
returns-clause-answer g c =
    let bank = c.args.work.now.bank.now in
    let s = store_of bank c.args.store.now in
    let new = c.unifies.new.work.bank.now in
    along (λ z. Does new (answer_of new c.unifies.new.store) c.unifies.result (λ n. elab_work (by_unify (unify (rules_of (env_of bank c.args.env.now)) n z s (tree_of bank c.args.left) (tree_of bank c.args.right))))
    c.args.work.now.ticks.now.left c.unifies.new.work.ticks.now.left)
    (goal_context bank c.args.store.now c.args.goal c.requires.place c.in_ok-context.context (λ v e. c.in_ok-context.ensures ∙ c.context.ensures.place v e)).is c.unifies.ensures.answer
