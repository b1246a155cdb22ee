use Rattle.lq_session.proofs.ShowLaws.{is_session_grown}
use Rattle.lq_session.proofs.CommandLaws.{does_grown, print_done}
use Rattle.lq_sessions.specs.Sentences.{printed, command_done}
use Rattle.lq_terms.specs.Terms.{text_of}
use Rattle.lq_ast.specs.PlainCommands.{plain_vernac}
use Rattle.lq_ast.specs.declared.sentence.Vernac.{Vernac}
use Rattle.lq_session.specs.Sessions.{session_of}
use Rattle.lq_session.proofs.commands.command_print.Goals as goal

pub returns-in-Err-clause-session : goal.returns-in-Err-clause-session
returns-in-Err-clause-session c = is_session_grown c.args.bank.now c.place_of_name.new.bank c.in-Err.ensures.grows c.args.session.now c.requires.session

pub print-requires-clause-session : goal.print-requires-clause-session
print-requires-clause-session c = is_session_grown c.args.bank.now c.place_of_name.new.bank c.in-Ok.ensures.grows c.args.session.now c.requires.session

pub returns-clause-answer : goal.returns-clause-answer
returns-clause-answer c =
    does_grown c.args.bank.now c.place_of_name.new.bank c.place_of_name.new.bank c.in-Ok.ensures.grows c.args.session.now c.args.session.now c.requires.session c.print.result
    (printed (session_of c.place_of_name.new.bank c.args.session.now) (text_of c.place_of_name.new.bank c.in-Ok.name)) (command_done (session_of c.args.bank.now c.args.session.now) (plain_vernac (Vernac.Print c.args.name.now)))
    (print_done c.args.bank.now c.place_of_name.new.bank c.in-Ok.ensures.grows c.args.session.now c.requires.session c.in-Ok.name c.args.name.now c.in-Ok.ensures.named) c.print.ensures.answer

pub returns-clause-session : goal.returns-clause-session
returns-clause-session c = is_session_grown c.args.bank.now c.place_of_name.new.bank c.in-Ok.ensures.grows c.args.session.now c.requires.session
