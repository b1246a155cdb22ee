use Rattle.std.proofs.Common.{◌≡◌, ◌∙◌}
use Rattle.std.proofs.Common.{subst as along}
use Rattle.std.specs.Prelude.{IfOk, Some}
use Rattle.lq_terms.specs.Terms.{tree_of, trees_by}
use Rattle.lq_solving.specs.Unification.{place_of}
use Rattle.lq_evars.specs.Places.{store_of}
use Rattle.lq_evars.specs.Reading.{as_read}
use Rattle.lq_unify.specs.Held.{is_absent}
use Rattle.lq_unify.specs.Solutions.{solution}
use Rattle.lq_unify.proofs.GivingLaws.{context_has, context_names_are, context_many}
use Rattle.lq_unify.proofs.solving.is_without_body.Goals as goal

pub is_unsolvable-requires-clause-context : goal.is_unsolvable-requires-clause-context
is_unsolvable-requires-clause-context c = context_has c.args.bank.now c.args.store.now c.requires.store c.args.variable c.requires.variable c.hypotheses.result.now (λ v e. c.hypotheses.ensures ∙ c.context-context.ensures.place v e)

pub is_unsolvable-requires-clause-as_many : goal.is_unsolvable-requires-clause-as_many
is_unsolvable-requires-clause-as_many c = context_many c.args.bank.now c.args.store.now c.requires.store c.args.variable c.requires.variable c.hypotheses.result.now (λ v e. c.hypotheses.ensures ∙ c.context-context.ensures.place v e) ∙ c.requires.as_many

pub returns-clause-is : goal.returns-clause-is
returns-clause-is c =
    along (λ xs. IfOk c.is_unsolvable.result (λ b. b ≡ is_absent (solution (Some c.args.variable) (place_of xs (trees_by (tree_of c.args.bank.now) c.args.entries.now)) (as_read (store_of c.args.bank.now c.args.store.now) (tree_of c.args.bank.now c.args.term)))))
    (context_names_are c.args.bank.now c.args.store.now c.requires.store c.args.variable c.requires.variable c.hypotheses.result.now (λ v e. c.hypotheses.ensures ∙ c.context-context.ensures.place v e)) c.is_unsolvable.ensures.is
