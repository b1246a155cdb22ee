use Rattle.std.proofs.Common.{◌≡◌, ◌∙◌}
use Rattle.std.proofs.Common.{subst as along}
use Rattle.std.specs.Prelude.{IfOk, option_map, Some}
use Rattle.lq_terms.specs.Terms.{tree_of, trees_by}
use Rattle.lq_solving.specs.Unification.{place_of}
use Rattle.lq_unify.specs.Solutions.{solution}
use Rattle.lq_unify.proofs.GivingLaws.{context_has, context_names_are, context_many}
use Rattle.lq_unify.proofs.solving.turned_round.Goals as goal

pub inverted-requires-clause-context : goal.inverted-requires-clause-context
inverted-requires-clause-context c = context_has c.args.bank.now c.args.store.now c.requires.store c.args.variable c.requires.variable c.hypotheses.result.now (λ v e. c.hypotheses.ensures ∙ c.context-context.ensures.place v e)

pub inverted-requires-clause-as_many : goal.inverted-requires-clause-as_many
inverted-requires-clause-as_many c = context_many c.args.bank.now c.args.store.now c.requires.store c.args.variable c.requires.variable c.hypotheses.result.now (λ v e. c.hypotheses.ensures ∙ c.context-context.ensures.place v e) ∙ c.requires.as_many

pub returns-clause-is : goal.returns-clause-is
returns-clause-is c =
    along (λ xs. IfOk c.inverted.result (λ o. option_map (tree_of c.inverted.new.bank) o ≡ solution (Some c.args.variable) (place_of xs (trees_by (tree_of c.args.bank.now) c.args.entries.now)) (tree_of c.args.bank.now c.args.term)))
    (context_names_are c.args.bank.now c.args.store.now c.requires.store c.args.variable c.requires.variable c.hypotheses.result.now (λ v e. c.hypotheses.ensures ∙ c.context-context.ensures.place v e)) c.inverted.ensures.is
