use Rattle.std.proofs.Common.{◌∙◌, ap, map}
use Rattle.std.specs.Prelude.{option_map}
use Rattle.std.specs.Option.{option_copied}
use Rattle.lq_ast.specs.Plain.{plain, plain_binders, joined}
use Rattle.lq_ast.specs.PlainCommands.{plain_vernac}
use Rattle.lq_ast.specs.declared.sentence.Vernac.{Vernac}
use Rattle.lq_terms.specs.Terms.{text_of}
use Rattle.lq_sessions.specs.Sentences.{command_done}
use Rattle.lq_session.specs.Sessions.{session_of}
use Rattle.lq_session.proofs.ShowLaws.{is_session_grown}
use Rattle.lq_session.proofs.CommandLaws.{does_grown, definition_done, defining}
use Rattle.lq_session.proofs.commands.command_definition.Goals as goal

pub returns-in-Err-clause-session : goal.returns-in-Err-clause-session
returns-in-Err-clause-session g c = is_session_grown c.args.work.now.bank.now c.parts_of.new.bank c.in-Err.ensures.grows c.args.session.now c.requires.session

pub define_constant-requires-clause-session : goal.define_constant-requires-clause-session
define_constant-requires-clause-session g c = is_session_grown c.args.work.now.bank.now c.parts_of.new.bank c.in-Ok.ensures.grows c.args.session.now c.requires.session

pub returns-clause-answer : goal.returns-clause-answer
returns-clause-answer g c =
    does_grown c.args.work.now.bank.now c.parts_of.new.bank c.define_constant.new.work.bank.now c.in-Ok.ensures.grows c.args.session.now c.define_constant.new.session c.requires.session c.define_constant.result
    (defining (session_of c.parts_of.new.bank c.args.session.now) (text_of c.parts_of.new.bank c.in-Ok.parts.0) (joined (map plain_binders c.deref.result.now)) (option_map (λ A. plain A.now) c.args.kind) (plain c.args.body.now))
    (command_done (session_of c.args.work.now.bank.now c.args.session.now) (plain_vernac (Vernac.Definition c.args.name.now c.args.groups (option_copied c.args.kind) c.args.body.now)))
    (definition_done c.args.work.now.bank.now c.parts_of.new.bank c.in-Ok.ensures.grows c.args.session.now c.requires.session c.in-Ok.parts.0 c.args.name.now c.in-Ok.ensures.named c.args.groups (joined (map plain_binders c.deref.result.now))
    (ap (λ bs. joined (map plain_binders bs)) c.deref.ensures.value ∙ c.in-Ok.ensures.groups) c.args.kind c.args.body.now) c.define_constant.ensures.answer
