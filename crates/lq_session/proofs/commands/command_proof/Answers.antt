use Rattle.lq_ast.specs.PlainCommands.{plain_vernac}
use Rattle.lq_sessions.specs.Sentences.{command_done}
use Rattle.lq_session.proofs.commands.command_proof.Goals as goal

pub returns : goal.returns
unfolding command_done plain_vernac
returns c = c.begin_proof.ensures
