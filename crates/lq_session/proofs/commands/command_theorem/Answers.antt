use Rattle.std.proofs.Common.{◌∙◌, ap, map}
use Rattle.lq_ast.specs.Plain.{plain, plain_binders, joined}
use Rattle.lq_ast.specs.PlainCommands.{plain_vernac}
use Rattle.lq_ast.specs.declared.sentence.Vernac.{Vernac}
use Rattle.lq_terms.specs.Terms.{text_of}
use Rattle.lq_sessions.specs.Sentences.{command_done}
use Rattle.lq_session.specs.Sessions.{session_of}
use Rattle.lq_session.proofs.ShowLaws.{is_session_grown}
use Rattle.lq_session.proofs.CommandLaws.{does_grown, theorem_done, lemma_done, stating}
use Rattle.lq_session.proofs.commands.command_theorem.Goals as goal

pub returns-in-Err-clause-session : goal.returns-in-Err-clause-session
returns-in-Err-clause-session g c = is_session_grown c.args.work.now.bank.now c.parts_of.new.bank c.in-Err.ensures.grows c.args.session.now c.requires.session

pub state_theorem-requires-clause-session : goal.state_theorem-requires-clause-session
state_theorem-requires-clause-session g c = is_session_grown c.args.work.now.bank.now c.parts_of.new.bank c.in-Ok.ensures.grows c.args.session.now c.requires.session

pub returns-clause-theorem : goal.returns-clause-theorem
returns-clause-theorem g c =
    does_grown c.args.work.now.bank.now c.parts_of.new.bank c.state_theorem.new.work.bank.now c.in-Ok.ensures.grows c.args.session.now c.state_theorem.new.session c.requires.session c.state_theorem.result
    (stating (session_of c.parts_of.new.bank c.args.session.now) (text_of c.parts_of.new.bank c.in-Ok.parts.0) (joined (map plain_binders c.deref.result.now)) (plain c.args.kind.now))
    (command_done (session_of c.args.work.now.bank.now c.args.session.now) (plain_vernac (Vernac.Theorem c.args.name.now c.args.groups c.args.kind.now)))
    (theorem_done c.args.work.now.bank.now c.parts_of.new.bank c.in-Ok.ensures.grows c.args.session.now c.requires.session c.in-Ok.parts.0 c.args.name.now c.in-Ok.ensures.named c.args.groups (joined (map plain_binders c.deref.result.now))
    (ap (λ bs. joined (map plain_binders bs)) c.deref.ensures.value ∙ c.in-Ok.ensures.groups) c.args.kind.now) c.state_theorem.ensures.answer

pub returns-clause-lemma : goal.returns-clause-lemma
returns-clause-lemma g c =
    does_grown c.args.work.now.bank.now c.parts_of.new.bank c.state_theorem.new.work.bank.now c.in-Ok.ensures.grows c.args.session.now c.state_theorem.new.session c.requires.session c.state_theorem.result
    (stating (session_of c.parts_of.new.bank c.args.session.now) (text_of c.parts_of.new.bank c.in-Ok.parts.0) (joined (map plain_binders c.deref.result.now)) (plain c.args.kind.now))
    (command_done (session_of c.args.work.now.bank.now c.args.session.now) (plain_vernac (Vernac.Lemma c.args.name.now c.args.groups c.args.kind.now)))
    (lemma_done c.args.work.now.bank.now c.parts_of.new.bank c.in-Ok.ensures.grows c.args.session.now c.requires.session c.in-Ok.parts.0 c.args.name.now c.in-Ok.ensures.named c.args.groups (joined (map plain_binders c.deref.result.now))
    (ap (λ bs. joined (map plain_binders bs)) c.deref.ensures.value ∙ c.in-Ok.ensures.groups) c.args.kind.now) c.state_theorem.ensures.answer
