use Rattle.std.proofs.Common.{subst, sym, Ok, Err}
use Rattle.lq_terms.specs.Terms.{tree_of}
use Rattle.lq_evars.specs.Places.{store_of}
use Rattle.lq_goals.specs.Seen.{Tells}
use Rattle.lq_goals.proofs.Seeing.{answer_reads}
use Rattle.lq_goals.proofs.Viewing.{err_reads, none_body, some_body, some_body_unfit}
use Rattle.lq_goals.proofs.views.read_body.Goals as goal

pub returns-in_default-clause-told : goal.returns-in_default-clause-told
returns-in_default-clause-told c = none_body (store_of c.args.bank.now c.args.store.now) c.args.bank.now c.args.body c.in_default.not-Some

pub returns-in_err-read-clause-told : goal.returns-in_err-read-clause-told
returns-in_err-read-clause-told c =
    err_reads _ c.from_residual.result c.in_err-read.field-0.0 _ c.from_residual.ensures.1
    (subst (Tells c.in_err-read.field-0.0) (sym (some_body_unfit (store_of c.args.bank.now c.args.store.now) c.args.bank.now c.args.body c.in-Some.term c.in-Some.is))
    (answer_reads c.read.new.bank (store_of c.args.bank.now c.args.store.now) (tree_of c.args.bank.now c.in-Some.term) (Err c.in_err-read.field-0.0) c.in_err-read.ensures.answer))

pub returns-clause-told : goal.returns-clause-told
returns-clause-told c =
    some_body (store_of c.args.bank.now c.args.store.now) c.args.bank.now c.read.new.bank c.args.body c.in-Some.term c.in_ok-read.read c.in-Some.is
    (answer_reads c.read.new.bank (store_of c.args.bank.now c.args.store.now) (tree_of c.args.bank.now c.in-Some.term) (Ok c.in_ok-read.read) c.in_ok-read.ensures.answer)
