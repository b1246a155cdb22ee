use Rattle.std.proofs.Common.{◌∙◌}
use Rattle.lq_terms.specs.Changes.{bindings}
use Rattle.lq_terms.specs.Terms.{tree_of}
use Rattle.lq_trees.specs.Change.{instance}
use Rattle.std.proofs.Common.{sym}
use Rattle.std.proofs.Common.{subst as along}
use Rattle.lq_trees.specs.Index.{Within}
use Rattle.lq_typing.proofs.KindLaws.{kept_grown, made_over, read_before}
use Rattle.lq_typing.proofs.SingleLaws.{names_given, kind_given, many_given, instance_given, over_given, within_given, closed_given}
use Rattle.lq_typing.proofs.singles.kind_at.Goals as goal

pub filled-requires-clause-context : goal.filled-requires-clause-context
filled-requires-clause-context c = names_given c.args.bank.now c.args.store.now c.requires.store c.requires.kept c.args.variable c.requires.inside c.hypotheses.result.now c.kind.result (λ v e. c.hypotheses.ensures ∙ c.context.ensures.place v e) c.kind.ensures.place c.args.entries.now

pub filled-requires-clause-as_many : goal.filled-requires-clause-as_many
filled-requires-clause-as_many c = many_given c.args.bank.now c.args.store.now c.requires.store c.requires.kept c.args.variable c.requires.inside c.hypotheses.result.now c.kind.result (λ v e. c.hypotheses.ensures ∙ c.context.ensures.place v e) c.kind.ensures.place c.args.entries.now c.requires.as_many

pub filled-requires-clause-closed : goal.filled-requires-clause-closed
filled-requires-clause-closed c = closed_given c.args.bank.now c.args.entries.now c.requires.closed

pub filled-requires-clause-body : goal.filled-requires-clause-body
filled-requires-clause-body c = kind_given c.args.bank.now c.args.store.now c.requires.store c.requires.kept c.args.variable c.requires.inside c.hypotheses.result.now c.kind.result (λ v e. c.hypotheses.ensures ∙ c.context.ensures.place v e) c.kind.ensures.place c.args.entries.now

pub read_kind-requires-clause-kept : goal.read_kind-requires-clause-kept
read_kind-requires-clause-kept c = kept_grown c.args.bank.now c.filled.new.bank c.in_ok-kind.ensures.grows c.args.store.now c.requires.store c.requires.kept

pub read_kind-requires-clause-over : goal.read_kind-requires-clause-over
read_kind-requires-clause-over c =
    made_over c.args.bank.now c.filled.new.bank c.in_ok-kind.ensures.grows c.args.store.now c.requires.store c.in_ok-kind.kind (instance (bindings c.args.bank.now c.hypotheses.result.now c.args.entries.now) (tree_of c.args.bank.now c.kind.result)) c.in_ok-kind.ensures.made
    (over_given c.args.bank.now c.args.store.now c.requires.store c.requires.kept c.args.variable c.requires.inside c.hypotheses.result.now c.kind.result (λ v e. c.hypotheses.ensures ∙ c.context.ensures.place v e) c.kind.ensures.place c.args.entries.now c.requires.over)

pub read_kind-requires-clause-closed : goal.read_kind-requires-clause-closed
read_kind-requires-clause-closed c = along (Within 0) (sym c.in_ok-kind.ensures.made.is) (within_given c.args.bank.now c.args.store.now c.requires.store c.requires.kept c.args.variable c.requires.inside c.hypotheses.result.now c.kind.result (λ v e. c.hypotheses.ensures ∙ c.context.ensures.place v e) c.kind.ensures.place c.args.entries.now c.requires.closed)

pub returns-clause-answer : goal.returns-clause-answer
returns-clause-answer c v e =
    read_before c.args.bank.now c.filled.new.bank c.in_ok-kind.ensures.grows c.args.store.now c.requires.store c.read_kind.new.bank c.read_kind.result (tree_of c.filled.new.bank c.in_ok-kind.kind) _ (c.in_ok-kind.ensures.made.is ∙ instance_given c.args.bank.now c.args.store.now c.requires.store c.requires.kept c.args.variable c.requires.inside c.hypotheses.result.now c.kind.result (λ v e. c.hypotheses.ensures ∙ c.context.ensures.place v e) c.kind.ensures.place c.args.entries.now v e) c.read_kind.ensures.answer
