use Rattle.std.proofs.Common.{subst, sym, ap, Ok, Err, None, ◌≡◌}
use Rattle.lq_terms.specs.Terms.{tree_of}
use Rattle.lq_terms.specs.Contexts.{hypothesis_of}
use Rattle.lq_solving.specs.Stores.{size_fault}
use Rattle.lq_evars.specs.Places.{store_of}
use Rattle.lq_evars.proofs.Growing.{HasStore-grown}
use Rattle.lq_goals.specs.Seen.{Tells, IsTree}
use Rattle.lq_goals.proofs.Seeing.{answer_reads, told_first, told_behind, hypothesis_unfit, readable_grown}
use Rattle.lq_goals.proofs.Viewing.{err_reads, kept_grown, reads_grown, hypothesis_told}
use Rattle.lq_goals.proofs.views.read_hypothesis.Goals as goal

pub returns-in_err-body-clause-told : goal.returns-in_err-body-clause-told
returns-in_err-body-clause-told c =
    err_reads _ c.from_residual.result c.in_err-body.field-0.0 _ c.from_residual.ensures.1
    (subst (Tells c.in_err-body.field-0.0) (sym (hypothesis_unfit (store_of c.args.bank.now c.args.store.now) (hypothesis_of c.args.bank.now c.args.hypothesis)))
    (told_first c.in_err-body.field-0.0 _ _ c.in_err-body.ensures.told))

pub read-requires-clause-store : goal.read-requires-clause-store
read-requires-clause-store c = HasStore-grown c.args.bank.now c.read_body.new.bank c.read_body.ensures.grows c.args.store.now c.requires.store

pub read-requires-clause-kept : goal.read-requires-clause-kept
read-requires-clause-kept c = kept_grown c.args.bank.now c.read_body.new.bank c.read_body.ensures.grows c.args.store.now c.requires.store c.requires.kept

pub read-requires-clause-over : goal.read-requires-clause-over
read-requires-clause-over c = (readable_grown c.args.bank.now c.read_body.new.bank c.read_body.ensures.grows c.args.store.now c.requires.store c.args.hypothesis.kind c.requires.hypothesis.kind).over

pub returns-in_err-kind-clause-told : goal.returns-in_err-kind-clause-told
returns-in_err-kind-clause-told c =
    err_reads _ c.from_residual-in_err-kind.result c.in_err-kind.field-0.0 _ c.from_residual-in_err-kind.ensures.1
    (subst (Tells c.in_err-kind.field-0.0) (sym (hypothesis_unfit (store_of c.args.bank.now c.args.store.now) (hypothesis_of c.args.bank.now c.args.hypothesis)))
    (told_behind c.in_err-kind.field-0.0 _ _ c.in_ok-body.ensures.told.0
    (subst (λ t. Tells c.in_err-kind.field-0.0 (size_fault t)) (reads_grown c.args.bank.now c.read_body.new.bank c.read_body.ensures.grows c.args.store.now c.requires.store c.args.hypothesis.kind c.requires.hypothesis.kind.has)
    (answer_reads c.read.new.bank (store_of c.read_body.new.bank c.args.store.now) (tree_of c.read_body.new.bank c.args.hypothesis.kind) (Err c.in_err-kind.field-0.0) c.in_err-kind.ensures.answer))))

pub returns-clause-told : goal.returns-clause-told
returns-clause-told c =
    hypothesis_told c.args.bank.now c.read_body.new.bank c.read.new.bank c.read_body.ensures.grows c.read.ensures.grows c.args.store.now c.requires.store c.args.hypothesis c.requires.hypothesis
    c.in_ok-body.body c.in_ok-kind.kind c.in_ok-body.ensures.told
    (subst (λ t. (size_fault t ≡ None) × IsTree c.read.new.bank t c.in_ok-kind.kind) (reads_grown c.args.bank.now c.read_body.new.bank c.read_body.ensures.grows c.args.store.now c.requires.store c.args.hypothesis.kind c.requires.hypothesis.kind.has)
    (answer_reads c.read.new.bank (store_of c.read_body.new.bank c.args.store.now) (tree_of c.read_body.new.bank c.args.hypothesis.kind) (Ok c.in_ok-kind.kind) c.in_ok-kind.ensures.answer))
