use Rattle.std.proofs.Common.{◌≡◌, ◌∙◌, sym, false, IfOk}
use Rattle.std.proofs.Common.{subst as along}
use Rattle.lq_trees.specs.Fresh.{is_listed}
use Rattle.lq_terms.specs.Terms.{text_of}
use Rattle.lq_solving.specs.Stores.{names_in}
use Rattle.lq_prims.proofs.SceneLaws.{goal_context}
use Rattle.lq_prims.proofs.introducing.named.Goals as goal

pub intro_name-requires-clause-context : goal.intro_name-requires-clause-context
intro_name-requires-clause-context c =
    (goal_context c.args.bank.now c.args.store.now c.args.goal c.requires.place c.hypotheses-context.result.now (λ v e. c.hypotheses-context.ensures ∙ c.context.ensures.place v e)).has

pub returns-clause-answer : goal.returns-clause-answer
returns-clause-answer c s e =
    c.intro_name.ensures.answer s
    (e ∙ sym (goal_context c.args.bank.now c.args.store.now c.args.goal c.requires.place c.hypotheses-context.result.now (λ v e. c.hypotheses-context.ensures ∙ c.context.ensures.place v e)).is)

pub returns-clause-new : goal.returns-clause-new
returns-clause-new c =
    along (λ z. IfOk c.intro_name.result (λ x. is_listed (names_in z) (text_of c.intro_name.new.bank x) ≡ false))
    (goal_context c.args.bank.now c.args.store.now c.args.goal c.requires.place c.hypotheses-context.result.now (λ v e. c.hypotheses-context.ensures ∙ c.context.ensures.place v e)).is c.intro_name.ensures.new
