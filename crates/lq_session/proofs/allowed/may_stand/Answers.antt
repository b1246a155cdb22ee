use Rattle.lq_session.proofs.DeclareLaws.{nested_does}
use Rattle.lq_session.proofs.SessionLaws.{none_of}
use Rattle.lq_session.proofs.allowed.may_stand.Goals as goal

pub returns-in_default : goal.returns-in_default
returns-in_default c = none_of c.args.session.now.opened c.in_default.not-Some

pub returns : goal.returns
returns c = nested_does c.args.bank.now c.args.session.now c.in-Some.opened c.in-Some.is c.requires
