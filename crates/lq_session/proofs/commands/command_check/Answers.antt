use Rattle.lq_ast.specs.PlainCommands.{plain_vernac}
use Rattle.lq_sessions.specs.Sentences.{command_done}
use Rattle.lq_session.proofs.commands.command_check.Goals as goal

pub returns-clause-answer : goal.returns-clause-answer
unfolding command_done plain_vernac
returns-clause-answer g c = c.check.ensures.answer
