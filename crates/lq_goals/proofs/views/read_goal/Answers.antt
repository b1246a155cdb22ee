use Rattle.std.proofs.Common.{subst, sym, ap, None, Ok, Err, Some, ◌≡◌, ◌∙◌, ap₂, Option}
use Rattle.std.specs.Prelude.{option_map}
use Rattle.std.specs.List.{AllByRecursion}
use Rattle.lq_terms.specs.Terms.{tree_of, text_of}
use Rattle.lq_terms.specs.Contexts.{context_of}
use Rattle.lq_solving.specs.Stores.{read_context, read_fitting, size_fault}
use Rattle.lq_evars.specs.Reading.{Answers}
use Rattle.lq_evars.specs.Places.{store_of}
use Rattle.lq_evars.proofs.Growing.{HasStore-grown}
use Rattle.lq_states.specs.Views.{goal_terms, context_terms, first_unfit}
use Rattle.lq_goals.specs.Seen.{CanRead, IsReadable, Tells, IsTree, IsView, AreHypotheses}
use Rattle.lq_goals.proofs.Seeing.{answer_reads, told_first, told_behind, or_fault, readable_grown}
use Rattle.lq_goals.proofs.Viewing.{err_reads, kept_grown, reads_grown}
use Rattle.lq_goals.proofs.ViewingGoals.{variable_at, context_can, kind_can, name_can, goal_is, goal_unfit, view_is}
use Rattle.lq_goals.proofs.views.read_goal.Goals as goal

pub read_context-requires-clause-context : goal.read_context-requires-clause-context
read_context-requires-clause-context c =
    let v = variable_at c.args.store.now c.args.goal c.requires.goal in
    subst (AllByRecursion (CanRead c.args.bank.now c.args.store.now)) (sym (c.hypotheses.ensures ∙ c.context.ensures.place v.0 v.1))
    (context_can c.args.bank.now c.args.store.now c.requires.store c.requires.kept c.args.goal v.0 v.1)

pub returns-in_err-context-clause-told : goal.returns-in_err-context-clause-told
returns-in_err-context-clause-told c g q =
    let v = variable_at c.args.store.now c.args.goal c.requires.goal in
    let is = goal_is c.args.bank.now c.args.store.now c.requires.store c.requires.kept c.args.goal v.0 v.1 g q in
    err_reads _ c.from_residual.result c.in_err-context.field-0.0 _ c.from_residual.ensures.1
    (subst (Tells c.in_err-context.field-0.0) (sym (goal_unfit g))
    (told_first c.in_err-context.field-0.0 _ _
    (subst (λ hs. Tells c.in_err-context.field-0.0 (first_unfit (context_terms hs)))
    (ap (λ hs. read_context (store_of c.args.bank.now c.args.store.now) (context_of c.args.bank.now hs)) (c.hypotheses.ensures ∙ c.context.ensures.place v.0 v.1) ∙ sym (ap (λ z. z.context) is))
    c.in_err-context.ensures.told)))

pub read-requires-clause-store : goal.read-requires-clause-store
read-requires-clause-store c = HasStore-grown c.args.bank.now c.read_context.new.bank c.read_context.ensures.grows c.args.store.now c.requires.store

pub read-requires-clause-kept : goal.read-requires-clause-kept
read-requires-clause-kept c = kept_grown c.args.bank.now c.read_context.new.bank c.read_context.ensures.grows c.args.store.now c.requires.store c.requires.kept

pub read-requires-clause-term : goal.read-requires-clause-term
read-requires-clause-term c = (
    let v = variable_at c.args.store.now c.args.goal c.requires.goal in
    subst (IsReadable c.read_context.new.bank c.args.store.now) (sym (c.kind.ensures.place v.0 v.1))
    (readable_grown c.args.bank.now c.read_context.new.bank c.read_context.ensures.grows c.args.store.now c.requires.store v.0.kind (kind_can c.args.bank.now c.args.store.now c.requires.store c.requires.kept c.args.goal v.0 v.1))).has

pub read-requires-clause-over : goal.read-requires-clause-over
read-requires-clause-over c = (
    let v = variable_at c.args.store.now c.args.goal c.requires.goal in
    subst (IsReadable c.read_context.new.bank c.args.store.now) (sym (c.kind.ensures.place v.0 v.1))
    (readable_grown c.args.bank.now c.read_context.new.bank c.read_context.ensures.grows c.args.store.now c.requires.store v.0.kind (kind_can c.args.bank.now c.args.store.now c.requires.store c.requires.kept c.args.goal v.0 v.1))).over

pub read-requires-clause-closed : goal.read-requires-clause-closed
read-requires-clause-closed c = (
    let v = variable_at c.args.store.now c.args.goal c.requires.goal in
    subst (IsReadable c.read_context.new.bank c.args.store.now) (sym (c.kind.ensures.place v.0 v.1))
    (readable_grown c.args.bank.now c.read_context.new.bank c.read_context.ensures.grows c.args.store.now c.requires.store v.0.kind (kind_can c.args.bank.now c.args.store.now c.requires.store c.requires.kept c.args.goal v.0 v.1))).within

pub returns-in_err-kind-clause-told : goal.returns-in_err-kind-clause-told
returns-in_err-kind-clause-told c g q =
    let v = variable_at c.args.store.now c.args.goal c.requires.goal in
    let is = goal_is c.args.bank.now c.args.store.now c.requires.store c.requires.kept c.args.goal v.0 v.1 g q in
    let can = kind_can c.args.bank.now c.args.store.now c.requires.store c.requires.kept c.args.goal v.0 v.1 in
    err_reads _ c.from_residual-in_err-kind.result c.in_err-kind.field-0.0 _ c.from_residual-in_err-kind.ensures.1
    (subst (Tells c.in_err-kind.field-0.0) (sym (goal_unfit g))
    (told_behind c.in_err-kind.field-0.0 _ _
    (sym (ap (λ hs. first_unfit (context_terms hs)) (ap (λ hs. read_context (store_of c.args.bank.now c.args.store.now) (context_of c.args.bank.now hs)) (c.hypotheses.ensures ∙ c.context.ensures.place v.0 v.1) ∙ sym (ap (λ z. z.context) is)))
    ∙ c.in_ok-context.ensures.told.0)
    (subst (λ t. Tells c.in_err-kind.field-0.0 (size_fault t))
    (reads_grown c.args.bank.now c.read_context.new.bank c.read_context.ensures.grows c.args.store.now c.requires.store v.0.kind can.has ∙ sym (ap (λ z. z.kind) is))
    (answer_reads c.read.new.bank (store_of c.read_context.new.bank c.args.store.now) (tree_of c.read_context.new.bank v.0.kind) (Err c.in_err-kind.field-0.0)
    (subst (λ t. Answers c.read.new.bank (Err c.in_err-kind.field-0.0) (read_fitting (store_of c.read_context.new.bank c.args.store.now) (tree_of c.read_context.new.bank t))) (c.kind.ensures.place v.0 v.1) c.in_err-kind.ensures.answer)))))

pub returns-clause-told : goal.returns-clause-told
returns-clause-told c g q =
    let v = variable_at c.args.store.now c.args.goal c.requires.goal in
    let is = goal_is c.args.bank.now c.args.store.now c.requires.store c.requires.kept c.args.goal v.0 v.1 g q in
    let can = kind_can c.args.bank.now c.args.store.now c.requires.store c.requires.kept c.args.goal v.0 v.1 in
    view_is c.args.bank.now c.read_context.new.bank c.read.new.bank c.read_context.ensures.grows c.read.ensures.grows g (record { name = c.name.result; context = c.in_ok-context.context; kind = c.in_ok-kind.kind })
    v.0.name (name_can c.args.bank.now c.args.store.now c.requires.store c.requires.kept c.args.goal v.0 v.1) (c.name.ensures.place v.0 v.1) (ap (λ z. z.name) is)
    (subst (λ hs. (first_unfit (context_terms hs) ≡ None) × AreHypotheses c.read_context.new.bank hs c.in_ok-context.context)
    (ap (λ hs. read_context (store_of c.args.bank.now c.args.store.now) (context_of c.args.bank.now hs)) (c.hypotheses.ensures ∙ c.context.ensures.place v.0 v.1) ∙ sym (ap (λ z. z.context) is))
    c.in_ok-context.ensures.told)
    (subst (λ t. (size_fault t ≡ None) × IsTree c.read.new.bank t c.in_ok-kind.kind)
    (reads_grown c.args.bank.now c.read_context.new.bank c.read_context.ensures.grows c.args.store.now c.requires.store v.0.kind can.has ∙ sym (ap (λ z. z.kind) is))
    (answer_reads c.read.new.bank (store_of c.read_context.new.bank c.args.store.now) (tree_of c.read_context.new.bank v.0.kind) (Ok c.in_ok-kind.kind)
    (subst (λ t. Answers c.read.new.bank (Ok c.in_ok-kind.kind) (read_fitting (store_of c.read_context.new.bank c.args.store.now) (tree_of c.read_context.new.bank t))) (c.kind.ensures.place v.0 v.1) c.in_ok-kind.ensures.answer)))
