use Rattle.std.proofs.Common.{arith}
use Rattle.lq_terms.specs.Contexts.{context_of}
use Rattle.lq_solving.proofs.UnifyRows.{none_is}
use Rattle.lq_unify.proofs.RowSteps.{one_stand, one_goes, more_work, solved_turn, solving_stops}
use Rattle.lq_unify.proofs.OpenSteps.{still_work, still_pair, still_left, still_right, still_rowed, still_one, still_unsolved, still_since, more_since, same_more, not_yes}
use Rattle.lq_unify.proofs.turns.open_rows.Goals as goal

pub returns-in-Some-clause-is : goal.returns-in-Some-clause-is
returns-in-Some-clause-is c = let e = (rw c.in-Some.is at (c.in_ok-form.ensures.form (context_of c.args.bank.now c.args.context.now))) in record {
  work = c.in_ok-wait_for.ensures.work c.args.bank.now c.args.context.now c.requires.mark c.requires.work c.requires.pair e.0 (one_stand c.args.bank.now c.args.store.now c.args.context.now c.args.frames.now c.requires.work c.args.pair c.requires.pair (omega (arith, c.requires.mark, c.ranges.mark.fits)) c.requires.left_open c.requires.right_open c.in-Some.form e.1);
  stands = tt;
}

pub returns-in-Some-clause-goes : goal.returns-in-Some-clause-goes
returns-in-Some-clause-goes c = λ r f b l h. let e = (rw c.in-Some.is at (c.in_ok-form.ensures.form (context_of c.args.bank.now c.args.context.now))) in one_goes c.args.bank.now c.args.store.now c.args.context.now c.args.frames.now c.requires.work c.args.pair c.requires.pair (omega (arith, c.requires.mark, c.ranges.mark.fits)) c.requires.left_open c.requires.right_open c.in-Some.form e.1 c.args.first r f b l c.wait_for.new.frames (c.in_ok-wait_for.ensures.waits c.args.bank.now c.args.context.now c.requires.mark) h

pub formed_rows-requires-clause-work : goal.formed_rows-requires-clause-work
formed_rows-requires-clause-work c = still_work c.args.bank.now c.by_solving.new.bank c.in-Ok-None.ensures.grows c.args.store.now c.by_solving.new.store ((rw c.in-Ok-None.field-0-is at c.in-Ok-None.ensures.no) (λ e. none_is e)) c.args.context.now c.args.frames.now c.requires.work c.args.pair c.requires.pair

pub formed_rows-requires-clause-pair : goal.formed_rows-requires-clause-pair
formed_rows-requires-clause-pair c = still_pair c.args.bank.now c.by_solving.new.bank c.in-Ok-None.ensures.grows c.args.store.now c.by_solving.new.store ((rw c.in-Ok-None.field-0-is at c.in-Ok-None.ensures.no) (λ e. none_is e)) c.args.context.now c.args.frames.now c.requires.work c.args.pair c.requires.pair

pub formed_rows-requires-clause-left_open : goal.formed_rows-requires-clause-left_open
formed_rows-requires-clause-left_open c = still_left c.args.bank.now c.by_solving.new.bank c.in-Ok-None.ensures.grows c.args.store.now c.by_solving.new.store ((rw c.in-Ok-None.field-0-is at c.in-Ok-None.ensures.no) (λ e. none_is e)) c.args.context.now c.args.frames.now c.requires.work c.args.pair c.requires.pair c.requires.left_open

pub formed_rows-requires-clause-right_open : goal.formed_rows-requires-clause-right_open
formed_rows-requires-clause-right_open c = still_right c.args.bank.now c.by_solving.new.bank c.in-Ok-None.ensures.grows c.args.store.now c.by_solving.new.store ((rw c.in-Ok-None.field-0-is at c.in-Ok-None.ensures.no) (λ e. none_is e)) c.args.context.now c.args.frames.now c.requires.work c.args.pair c.requires.pair c.requires.right_open

pub returns-in_err-next-in-Ok-None-clause-since : goal.returns-in_err-next-in-Ok-None-clause-since
returns-in_err-next-in-Ok-None-clause-since c = λ before h. c.in_err-next-in-Ok-None.ensures.since before (still_since before c.args.store.now c.by_solving.new.store c.args.frames.now ((rw c.in-Ok-None.field-0-is at c.in-Ok-None.ensures.no) (λ e. none_is e)) h)

pub returns-in_ok-next-in-Ok-None-clause-since : goal.returns-in_ok-next-in-Ok-None-clause-since
returns-in_ok-next-in-Ok-None-clause-since c = λ before h. c.in_ok-next-in-Ok-None.ensures.since before (still_since before c.args.store.now c.by_solving.new.store c.args.frames.now ((rw c.in-Ok-None.field-0-is at c.in-Ok-None.ensures.no) (λ e. none_is e)) h)

pub returns-in_ok-next-in-Ok-None-clause-goes : goal.returns-in_ok-next-in-Ok-None-clause-goes
returns-in_ok-next-in-Ok-None-clause-goes c = λ r f b l h.
    c.in_ok-next-in-Ok-None.ensures.goes r f b l (still_rowed c.args.bank.now c.by_solving.new.bank c.in-Ok-None.ensures.grows c.args.store.now c.by_solving.new.store ((rw c.in-Ok-None.field-0-is at c.in-Ok-None.ensures.no) (λ e. none_is e)) c.args.context.now c.args.frames.now c.requires.work c.args.pair c.requires.pair c.args.first r f b l h) (still_one c.args.bank.now c.by_solving.new.bank c.in-Ok-None.ensures.grows c.args.store.now c.by_solving.new.store ((rw c.in-Ok-None.field-0-is at c.in-Ok-None.ensures.no) (λ e. none_is e)) c.args.context.now c.args.frames.now c.requires.work c.args.pair c.requires.pair (rw c.in_default.is at (c.in_ok-form.ensures.form (context_of c.args.bank.now c.args.context.now)))) (still_unsolved c.args.bank.now c.by_solving.new.bank c.in-Ok-None.ensures.grows c.args.store.now c.by_solving.new.store ((rw c.in-Ok-None.field-0-is at c.in-Ok-None.ensures.no) (λ e. none_is e)) c.args.context.now c.args.frames.now c.requires.work c.args.pair c.requires.pair (rw c.in-Ok-None.field-0-is at c.in-Ok-None.ensures.answer))

pub returns-in-Ok-Some-clause-is : goal.returns-in-Ok-Some-clause-is
returns-in-Ok-Some-clause-is c = let d = c.in-Ok-Some.ensures.gives in record {
  work = more_work c.args.bank.now c.by_solving.new.bank c.in-Ok-Some.ensures.grows c.args.store.now c.args.context.now c.args.frames.now c.requires.work c.by_solving.new.store d.more d;
  stands = tt;
}

pub returns-in-Ok-Some-clause-goes : goal.returns-in-Ok-Some-clause-goes
returns-in-Ok-Some-clause-goes c = λ r f b l h. let d = c.in-Ok-Some.ensures.gives in
    solved_turn c.args.bank.now c.by_solving.new.bank c.in-Ok-Some.ensures.grows c.args.store.now c.args.context.now c.args.frames.now c.requires.work c.by_solving.new.store d.more c.args.pair c.requires.pair.has r f b l c.args.first h (rw c.in_default.is at (c.in_ok-form.ensures.form (context_of c.args.bank.now c.args.context.now))) c.requires.left_open c.requires.right_open
    c.in-Ok-Some.yes (rw c.in-Ok-Some.field-0-is at c.in-Ok-Some.ensures.answer) d.later (λ e. (rw c.in-Ok-Some.field-0-is at c.in-Ok-Some.ensures.no) (λ d. not_yes c.in-Ok-Some.yes e d))

pub returns-in-Ok-Some-clause-since : goal.returns-in-Ok-Some-clause-since
returns-in-Ok-Some-clause-since c = λ before h. more_since before c.args.store.now c.by_solving.new.store c.args.frames.now c.in-Ok-Some.ensures.gives.more h

pub returns-in-Err-clause-goes : goal.returns-in-Err-clause-goes
returns-in-Err-clause-goes c = λ r f b l h.
    solving_stops c.args.bank.now c.by_solving.new.bank c.in-Err.ensures.grows c.args.store.now c.args.context.now c.args.frames.now c.requires.work c.by_solving.new.store (same_more c.args.store.now c.by_solving.new.store c.in-Err.ensures.refused) c.args.pair c.requires.pair.has r f b l c.args.first h (rw c.in_default.is at (c.in_ok-form.ensures.form (context_of c.args.bank.now c.args.context.now))) c.requires.left_open c.requires.right_open
    c.in-Err.fault c.in-Err.ensures.answer

pub returns-in-Err-clause-since : goal.returns-in-Err-clause-since
returns-in-Err-clause-since c = λ before h. still_since before c.args.store.now c.by_solving.new.store c.args.frames.now c.in-Err.ensures.refused h
