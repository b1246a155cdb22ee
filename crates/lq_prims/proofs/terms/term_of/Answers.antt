use Rattle.std.proofs.Common.{◌∙◌, sym}
use Rattle.std.proofs.Common.{subst as along}
use Rattle.std.specs.Prelude.{option_map}
use Rattle.lq_ast.specs.Plain.{plain}
use Rattle.lq_terms.specs.Contexts.{context_of}
use Rattle.lq_terms.specs.Terms.{tree_of}
use Rattle.lq_env.specs.Environments.{env_of}
use Rattle.lq_solving.specs.Stores.{names_in}
use Rattle.lq_solving.specs.Kept.{IsContext, OptionStands}
use Rattle.lq_solving.specs.Elaboration.{found}
use Rattle.lq_evars.specs.Places.{store_of}
use Rattle.lq_elab.specs.Calls.{IsElaborated}
use Rattle.lq_elab.specs.States.{givens_of}
use Rattle.lq_tactics.specs.Rows.{term_of}
use Rattle.lq_prims.specs.Scenes.{context_at, scene_by}
use Rattle.lq_prims.specs.Working.{Refuses}
use Rattle.lq_prims.proofs.SceneLaws.{goal_context, context_stands}
use Rattle.lq_prims.proofs.TermLaws.{term_done, term_refused}
use Rattle.lq_prims.proofs.terms.term_of.Goals as goal

pub elaborate-requires-clause-context : goal.elaborate-requires-clause-context
elaborate-requires-clause-context g c =
    (goal_context c.args.work.now.bank.now c.args.store.now c.args.goal c.requires.place c.in-Ok.context (λ v e. c.in-Ok.ensures ∙ c.context.ensures.place v e)).has

pub elaborate-requires-clause-hypotheses : goal.elaborate-requires-clause-hypotheses
elaborate-requires-clause-hypotheses g c =
    along (IsContext (store_of c.args.work.now.bank.now c.args.store.now))
    (sym (goal_context c.args.work.now.bank.now c.args.store.now c.args.goal c.requires.place c.in-Ok.context (λ v e. c.in-Ok.ensures ∙ c.context.ensures.place v e)).is)
    (context_stands c.args.work.now.bank.now c.args.store.now c.args.goal c.requires.place)

pub elaborate-requires-clause-wanted_stands : goal.elaborate-requires-clause-wanted_stands
elaborate-requires-clause-wanted_stands g c =
    along (λ z. OptionStands (store_of c.args.work.now.bank.now c.args.store.now) (names_in z) (option_map (tree_of c.args.work.now.bank.now) c.args.wanted))
    (sym (goal_context c.args.work.now.bank.now c.args.store.now c.args.goal c.requires.place c.in-Ok.context (λ v e. c.in-Ok.ensures ∙ c.context.ensures.place v e)).is) c.requires.wanted_stands

pub returns-in-Ok-elaborate-clause-answer : goal.returns-in-Ok-elaborate-clause-answer
returns-in-Ok-elaborate-clause-answer g c T =
    let bank = c.args.work.now.bank.now in
    let s = store_of bank c.args.store.now in
    let new = c.elaborate.new.work.bank.now in
    let is = (goal_context bank c.args.store.now c.args.goal c.requires.place c.in-Ok.context (λ v e. c.in-Ok.ensures ∙ c.context.ensures.place v e)).is in
    term_done (env_of bank c.args.env.now) s c.args.goal (context_at s c.args.goal) T (givens_of bank c.args.values.now) (plain c.args.term.now) (option_map (tree_of bank) c.args.wanted) (context_of bank c.in-Ok.context) is
    c.args.work.now.ticks.now.left c.elaborate.new.work.ticks.now.left (found (store_of new c.elaborate.new.store) (tree_of new c.in-Ok-elaborate.elaborated.term) (tree_of new c.in-Ok-elaborate.elaborated.kind)) c.in-Ok-elaborate.ensures.answer

pub returns-in-Ok-elaborate-clause-stands : goal.returns-in-Ok-elaborate-clause-stands
returns-in-Ok-elaborate-clause-stands g c =
    let bank = c.args.work.now.bank.now in
    along (λ z. IsElaborated c.elaborate.new.work.bank.now (store_of bank c.args.store.now) c.elaborate.new.store z c.in-Ok-elaborate.elaborated)
    (goal_context bank c.args.store.now c.args.goal c.requires.place c.in-Ok.context (λ v e. c.in-Ok.ensures ∙ c.context.ensures.place v e)).is c.in-Ok-elaborate.ensures.stands

pub returns-clause-answer : goal.returns-clause-answer
returns-clause-answer g c T =
    let bank = c.args.work.now.bank.now in
    let s = store_of bank c.args.store.now in
    let new = c.elaborate.new.work.bank.now in
    let is = (goal_context bank c.args.store.now c.args.goal c.requires.place c.in-Ok.context (λ v e. c.in-Ok.ensures ∙ c.context.ensures.place v e)).is in
    along (λ z. Refuses new z (λ n. term_of (scene_by (env_of bank c.args.env.now) s c.args.goal (context_at s c.args.goal) T (givens_of bank c.args.values.now) n) (plain c.args.term.now) (option_map (tree_of bank) c.args.wanted))
    c.args.work.now.ticks.now.left c.elaborate.new.work.ticks.now.left) (sym c.from.ensures)
    (term_refused (env_of bank c.args.env.now) s c.args.goal (context_at s c.args.goal) T (givens_of bank c.args.values.now) (plain c.args.term.now) (option_map (tree_of bank) c.args.wanted) (context_of bank c.in-Ok.context) is
    new c.in-Err-elaborate.fault c.args.work.now.ticks.now.left c.elaborate.new.work.ticks.now.left c.in-Err-elaborate.ensures.answer)
