use Rattle.std.proofs.Common.{refl}
use Rattle.lq_ast.specs.PlainCommands.{plain_vernac}
use Rattle.lq_sessions.specs.Built.{command_built}
use Rattle.lq_session.specs.Sessions.{is_declaring}
use Rattle.lq_session.proofs.ChoiceLaws.{declaring, not_built}
use Rattle.lq_session.proofs.choosing.other_command.Goals as goal

pub unreachable-requires : goal.unreachable-requires
unfolding is_declaring
unreachable-requires g c = declaring c.args.command _ c.in-Inductive.is c.requires.other refl

pub unreachable-requires-in-Definition : goal.unreachable-requires-in-Definition
unfolding is_declaring
unreachable-requires-in-Definition g c = declaring c.args.command _ c.in-Definition.is c.requires.other refl

pub unreachable-requires-in-Theorem : goal.unreachable-requires-in-Theorem
unfolding is_declaring
unreachable-requires-in-Theorem g c = declaring c.args.command _ c.in-Theorem.is c.requires.other refl

pub unreachable-requires-in-Lemma : goal.unreachable-requires-in-Lemma
unfolding is_declaring
unreachable-requires-in-Lemma g c = declaring c.args.command _ c.in-Lemma.is c.requires.other refl

pub unreachable-requires-in-Qed : goal.unreachable-requires-in-Qed
unfolding is_declaring
unreachable-requires-in-Qed g c = declaring c.args.command _ c.in-Qed.is c.requires.other refl

pub unreachable-requires-in-Defined : goal.unreachable-requires-in-Defined
unfolding is_declaring
unreachable-requires-in-Defined g c = declaring c.args.command _ c.in-Defined.is c.requires.other refl

pub unreachable-requires-in-Unshelve : goal.unreachable-requires-in-Unshelve
unfolding plain_vernac command_built
unreachable-requires-in-Unshelve g c = not_built c.args.command _ c.in-Unshelve.is c.requires.built refl

pub unreachable-requires-in-Ltac : goal.unreachable-requires-in-Ltac
unfolding plain_vernac command_built
unreachable-requires-in-Ltac g c = not_built c.args.command _ c.in-Ltac.is c.requires.built refl

pub unreachable-requires-in-Outcomes : goal.unreachable-requires-in-Outcomes
unfolding plain_vernac command_built
unreachable-requires-in-Outcomes g c = not_built c.args.command _ c.in-Outcomes.is c.requires.built refl
