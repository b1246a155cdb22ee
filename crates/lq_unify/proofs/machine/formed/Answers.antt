use Rattle.lq_unify.proofs.FrameLaws.{work_grown}
use Rattle.lq_unify.proofs.TurnSteps.{forms_stop, forms_same, forms_stand, forms_rowed}
use Rattle.lq_unify.proofs.machine.formed.Goals as goal

pub rows-requires-clause-work : goal.rows-requires-clause-work
rows-requires-clause-work g c =
    work_grown c.args.work.now.bank.now c.reduced.new.work.bank.now c.in-Ok-Some.ensures.grows c.args.store.now c.args.context.now c.args.frames.now c.requires.work

pub rows-requires-clause-pair : goal.rows-requires-clause-pair
rows-requires-clause-pair g c =
    forms_stand c.args.work.now.bank.now c.reduced.new.work.bank.now c.in-Ok-Some.ensures.grows c.args.store.now c.args.context.now c.args.frames.now c.requires.work c.args.pair c.requires.pair
    (c.in-Ok-Some.left, c.in-Ok-Some.right) c.requires.rules.rules c.requires.rules.plain c.args.work.now.ticks.now.left c.reduced.new.work.ticks.now.left
    (rw c.in-Ok-Some.field-0-is at c.in-Ok-Some.ensures.has) (rw c.in-Ok-Some.field-0-is at (c.in-Ok-Some.ensures.answer c.requires.rules.rules c.requires.rules.tells c.requires.rules.plain))

pub returns-in-Ok-Some-clause-goes : goal.returns-in-Ok-Some-clause-goes
returns-in-Ok-Some-clause-goes g c = λ r f b tells plain h.
    c.rows.ensures.goes r f b c.reduced.new.work.ticks.now.left
    (forms_rowed c.args.work.now.bank.now c.reduced.new.work.bank.now c.in-Ok-Some.ensures.grows c.args.store.now c.args.context.now c.args.frames.now c.requires.work c.args.pair c.requires.pair
    (c.in-Ok-Some.left, c.in-Ok-Some.right) r plain f b c.args.work.now.ticks.now.left c.reduced.new.work.ticks.now.left (rw c.in-Ok-Some.field-0-is at (c.in-Ok-Some.ensures.answer r tells plain)) h)

pub returns-in-Ok-None-clause-is : goal.returns-in-Ok-None-clause-is
returns-in-Ok-None-clause-is g c = record {
  work = work_grown c.args.work.now.bank.now c.reduced.new.work.bank.now c.in-Ok-None.ensures.grows c.args.store.now c.args.context.now c.args.frames.now c.requires.work;
  stands = tt;
}

pub returns-in-Ok-None-clause-goes : goal.returns-in-Ok-None-clause-goes
returns-in-Ok-None-clause-goes g c = λ r f b tells plain h.
    forms_same c.args.work.now.bank.now c.reduced.new.work.bank.now c.in-Ok-None.ensures.grows c.args.store.now c.args.context.now c.args.frames.now c.requires.work c.args.pair c.requires.pair
    r f b c.args.work.now.ticks.now.left c.reduced.new.work.ticks.now.left (rw c.in-Ok-None.field-0-is at (c.in-Ok-None.ensures.answer r tells plain)) h

pub returns-in-Err-clause-goes : goal.returns-in-Err-clause-goes
returns-in-Err-clause-goes g c = λ r f b tells plain h.
    forms_stop c.args.work.now.bank.now c.reduced.new.work.bank.now c.in-Err.ensures.grows c.args.store.now c.args.context.now c.args.frames.now c.requires.work c.args.pair c.requires.pair
    r f b c.args.work.now.ticks.now.left c.reduced.new.work.ticks.now.left c.in-Err.fault (c.in-Err.ensures.answer r tells plain) h
