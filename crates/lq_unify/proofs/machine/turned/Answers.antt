use Rattle.std.proofs.Common.{subst as along}
use Rattle.lq_unify.specs.Frames.{IsSince}
use Rattle.lq_unify.proofs.machine.turned.Goals as goal

pub returns-in_err-next-in-Answer-clause-since : goal.returns-in_err-next-in-Answer-clause-since
returns-in_err-next-in-Answer-clause-since g c = λ before h. c.in_err-next-in-Answer.ensures.since before (along (λ z. IsSince before c.args.store.now z) c.in-Some.ensures h)

pub returns-in_ok-next-in-Answer-clause-since : goal.returns-in_ok-next-in-Answer-clause-since
returns-in_ok-next-in-Answer-clause-since g c = λ before h. c.in_ok-next-in-Answer.ensures.since before (along (λ z. IsSince before c.args.store.now z) c.in-Some.ensures h)
