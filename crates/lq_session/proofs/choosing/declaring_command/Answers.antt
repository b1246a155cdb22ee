use Rattle.std.proofs.Common.{refl}
use Rattle.lq_session.specs.Sessions.{is_declaring}
use Rattle.lq_session.proofs.ChoiceLaws.{not_declaring}
use Rattle.lq_session.proofs.choosing.declaring_command.Goals as goal

pub unreachable-requires : goal.unreachable-requires
unfolding is_declaring
unreachable-requires g c = not_declaring c.args.command _ c.in-Proof.is c.requires.declaring refl

pub unreachable-requires-in-Abort : goal.unreachable-requires-in-Abort
unfolding is_declaring
unreachable-requires-in-Abort g c = not_declaring c.args.command _ c.in-Abort.is c.requires.declaring refl

pub unreachable-requires-in-Unshelve : goal.unreachable-requires-in-Unshelve
unfolding is_declaring
unreachable-requires-in-Unshelve g c = not_declaring c.args.command _ c.in-Unshelve.is c.requires.declaring refl

pub unreachable-requires-in-Show : goal.unreachable-requires-in-Show
unfolding is_declaring
unreachable-requires-in-Show g c = not_declaring c.args.command _ c.in-Show.is c.requires.declaring refl

pub unreachable-requires-in-Print : goal.unreachable-requires-in-Print
unfolding is_declaring
unreachable-requires-in-Print g c = not_declaring c.args.command _ c.in-Print.is c.requires.declaring refl

pub unreachable-requires-in-Check : goal.unreachable-requires-in-Check
unfolding is_declaring
unreachable-requires-in-Check g c = not_declaring c.args.command _ c.in-Check.is c.requires.declaring refl

pub unreachable-requires-in-Ltac : goal.unreachable-requires-in-Ltac
unfolding is_declaring
unreachable-requires-in-Ltac g c = not_declaring c.args.command _ c.in-Ltac.is c.requires.declaring refl

pub unreachable-requires-in-Outcomes : goal.unreachable-requires-in-Outcomes
unfolding is_declaring
unreachable-requires-in-Outcomes g c = not_declaring c.args.command _ c.in-Outcomes.is c.requires.declaring refl
