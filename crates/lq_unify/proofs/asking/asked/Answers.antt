use Rattle.std.proofs.Common.{◌≡◌, arith}
use Rattle.lq_evars.specs.Places.{store_of}
use Rattle.lq_unify.specs.Frames.{sides_in, waits}
use Rattle.lq_unify.proofs.TurnSteps.{asked_out, asked_rowed}
use Rattle.lq_unify.proofs.asking.asked.Goals as goal

pub returns-then-not-take-clause-goes : goal.returns-then-not-take-clause-goes
returns-then-not-take-clause-goes g c = λ r f b h.
    let e : c.args.ticks.now.left ≡ 0 = rw c.if-not-take.true at c.take.ensures.taken in
    asked_out r f b c.args.ticks.now.left c.take.new.self.left (store_of c.args.bank.now c.args.store.now) (waits c.args.bank.now c.args.store.now c.args.context.now c.args.frames.now) (sides_in c.args.bank.now c.args.context.now c.args.pair) e (omega (arith, e, c.take.ensures.left, (rw c.if-not-take.true at c.take.ensures.none))) h

pub returns-clause-goes : goal.returns-clause-goes
returns-clause-goes g c = λ r f b h. c.rows.ensures.goes r f b c.take.new.self.left (asked_rowed r f b c.args.ticks.now.left c.take.new.self.left (store_of c.args.bank.now c.args.store.now) (waits c.args.bank.now c.args.store.now c.args.context.now c.args.frames.now) (sides_in c.args.bank.now c.args.context.now c.args.pair) (rw c.if-not-take.false at c.take.ensures.taken) h)
