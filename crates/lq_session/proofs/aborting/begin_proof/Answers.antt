use Rattle.std.proofs.Common.{◌∙◌}
use Rattle.lq_sessions.specs.Sessions.{accepted}
use Rattle.lq_session.specs.Sessions.{session_of}
use Rattle.lq_session.proofs.SessionLaws.{without_proof, missing, begins_does}
use Rattle.lq_session.proofs.aborting.begin_proof.Goals as goal

pub returns-then-is_none : goal.returns-then-is_none
returns-then-is_none c bank =
    without_proof bank bank c.args.session.now (λ o. accepted (session_of bank c.args.session.now)) (missing c.args.session.now.opened c.is_none.result c.is_none.ensures c.if-is_none.true)

pub returns : goal.returns
returns c bank = begins_does bank c.args.session.now c.from_string.result c.is_none.result c.is_none.ensures c.if-is_none.false (c.from_string.ensures ∙ c.new.ensures.bytes)
