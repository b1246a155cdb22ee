use Rattle.std.proofs.Common.{◌∙◌, sym, ap, ap₂, length}
use Rattle.std.proofs.Common.{subst as along}
use Rattle.std.specs.List.{AllByRecursion}
use Rattle.lq_trees.specs.Change.{instance}
use Rattle.lq_terms.specs.declared.nodes.Node.{Node}
use Rattle.lq_terms.specs.Terms.{HasTerm, IsTerm, tree_of, trees_by}
use Rattle.lq_terms.specs.Changes.{bindings, HasHypothesis}
use Rattle.lq_unify.specs.Solutions.{AreClosed}
use Rattle.lq_unify.proofs.PartLaws.{tree_is, parts_have}
use Rattle.lq_unify.proofs.ExposeSteps.{open_kept, context_names, as_many, entries_closed, head_value}
use Rattle.lq_unify.proofs.exposing.head_value.Goals as goal

pub returns-in_default-body-clause-open : goal.returns-in_default-body-clause-open
returns-in_default-body-clause-open c = λ h. open_kept c.args.bank.now c.args.store.now c.requires.kept c.in-Evar.variable (c.values_stand.ensures.told c.args.bank.now c.requires.kept c.in-Evar.variable) (tree_of c.args.bank.now c.args.head) (trees_by (tree_of c.args.bank.now) c.in-Evar.entries) (tree_is c.args.bank.now c.node.result.now (Node.Evar c.in-Evar.variable c.in-Evar.entries) c.args.head c.node.ensures.tree c.in-Evar.is) (sym c.in_default-body.ensures)

pub filled-requires-clause-context : goal.filled-requires-clause-context
filled-requires-clause-context c = along (AllByRecursion (HasHypothesis c.args.bank.now)) (sym c.hypotheses.ensures) (context_names c.args.bank.now c.in-Some.context.now (c.values_stand.ensures.stand c.args.bank.now c.requires.store c.requires.kept c.in-Evar.variable (c.in-Some.context.now, c.in-Some.value) (sym c.in-Some.ensures)).context)

pub filled-requires-clause-terms : goal.filled-requires-clause-terms
filled-requires-clause-terms c = along (AllByRecursion (HasTerm c.args.bank.now)) (sym (c.as_slice.ensures.value ∙ c.in_ok-entries.ensures.items ∙ c.terms.ensures)) (parts_have c.args.bank.now c.args.head c.in-Evar.entries (rw c.in-Evar.is at c.node.ensures.parts))

pub filled-requires-clause-as_many : goal.filled-requires-clause-as_many
filled-requires-clause-as_many c = ap length c.hypotheses.ensures ∙ as_many c.args.bank.now c.args.store.now c.requires.kept c.in-Evar.variable (c.values_stand.ensures.told c.args.bank.now c.requires.kept c.in-Evar.variable) c.in-Some.context.now c.in-Some.value (sym c.in-Some.ensures) (tree_of c.args.bank.now c.args.head) c.in-Evar.entries (tree_is c.args.bank.now c.node.result.now (Node.Evar c.in-Evar.variable c.in-Evar.entries) c.args.head c.node.ensures.tree c.in-Evar.is) c.requires.head.over c.requires.head.within ∙ ap length (sym (c.as_slice.ensures.value ∙ c.in_ok-entries.ensures.items ∙ c.terms.ensures))

pub filled-requires-clause-closed : goal.filled-requires-clause-closed
filled-requires-clause-closed c = along (AreClosed c.args.bank.now) (sym (c.as_slice.ensures.value ∙ c.in_ok-entries.ensures.items ∙ c.terms.ensures)) (entries_closed c.args.bank.now c.args.store.now c.requires.kept c.in-Evar.variable (c.values_stand.ensures.told c.args.bank.now c.requires.kept c.in-Evar.variable) c.in-Some.context.now c.in-Some.value (sym c.in-Some.ensures) (tree_of c.args.bank.now c.args.head) c.in-Evar.entries (tree_is c.args.bank.now c.node.result.now (Node.Evar c.in-Evar.variable c.in-Evar.entries) c.args.head c.node.ensures.tree c.in-Evar.is) c.requires.head.over c.requires.head.within)

pub filled-requires-clause-body : goal.filled-requires-clause-body
filled-requires-clause-body c = (c.values_stand.ensures.stand c.args.bank.now c.requires.store c.requires.kept c.in-Evar.variable (c.in-Some.context.now, c.in-Some.value) (sym c.in-Some.ensures)).has

pub returns-clause-value : goal.returns-clause-value
returns-clause-value c =
    head_value c.args.bank.now c.args.store.now c.requires.kept c.in-Evar.variable (c.values_stand.ensures.told c.args.bank.now c.requires.kept c.in-Evar.variable) c.in-Some.context.now c.in-Some.value (sym c.in-Some.ensures) (tree_of c.args.bank.now c.args.head) c.in-Evar.entries (tree_is c.args.bank.now c.node.result.now (Node.Evar c.in-Evar.variable c.in-Evar.entries) c.args.head c.node.ensures.tree c.in-Evar.is) c.requires.head.over c.requires.head.within c.filled.new.bank c.in_ok-term.term
    (along (λ ps. IsTerm c.filled.new.bank c.in_ok-term.term (instance ps (tree_of c.args.bank.now c.in-Some.value))) (ap₂ (bindings c.args.bank.now) c.hypotheses.ensures (c.as_slice.ensures.value ∙ c.in_ok-entries.ensures.items ∙ c.terms.ensures)) c.in_ok-term.ensures.made)
