use Rattle.lq_session.proofs.CommandLaws.{group_is}
use Rattle.lq_session.proofs.commands.binders_of.Goals as goal

pub returns : goal.returns
returns c = group_is c.args.group c.in_ok-kind.kind c.in_ok-kind.ensures
