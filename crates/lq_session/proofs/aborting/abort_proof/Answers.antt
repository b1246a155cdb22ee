use Rattle.std.proofs.Common.{◌∙◌, refl, None}
use Rattle.lq_sessions.specs.Sessions.{accepted, with_opened}
use Rattle.lq_session.specs.Sessions.{session_of}
use Rattle.lq_session.proofs.SessionLaws.{without_proof, missing, aborts_does}
use Rattle.lq_session.proofs.aborting.abort_proof.Goals as goal

pub returns-then-is_none-clause-answer : goal.returns-then-is_none-clause-answer
returns-then-is_none-clause-answer c bank =
    without_proof bank bank c.args.session.now (λ o. accepted (with_opened (session_of bank c.args.session.now) None)) (missing c.args.session.now.opened c.is_none.result c.is_none.ensures c.if-is_none.true)

pub returns-clause-answer : goal.returns-clause-answer
returns-clause-answer c bank =
    aborts_does bank c.args.session.now (record { env = c.args.session.now.env; steps = c.args.session.now.steps; kernel = c.args.session.now.kernel; opened = None }) c.from_string.result c.is_none.result
    c.is_none.ensures c.if-is_none.false (c.from_string.ensures ∙ c.new.ensures.bytes) refl
