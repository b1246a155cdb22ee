use Rattle.std.proofs.Common.{◌∙◌, ap, map, subst}
use Rattle.lq_ast.specs.Plain.{plain, plain_binders, joined}
use Rattle.lq_ast.specs.PlainCommands.{plain_constructor, plain_vernac}
use Rattle.lq_ast.specs.declared.sentence.Vernac.{Vernac}
use Rattle.lq_terms.specs.Terms.{text_of}
use Rattle.lq_sessions.specs.Sessions.{needs_none}
use Rattle.lq_sessions.specs.Declaring.{inductive}
use Rattle.lq_sessions.specs.Sentences.{command_done}
use Rattle.lq_session.specs.Sessions.{session_of, Does}
use Rattle.lq_session.proofs.ShowLaws.{is_session_grown}
use Rattle.lq_session.proofs.CommandLaws.{does_grown, inductive_done}
use Rattle.lq_session.proofs.inductive_command.command_inductive.Goals as goal

pub returns-in-Err-parts_of-clause-session : goal.returns-in-Err-parts_of-clause-session
returns-in-Err-parts_of-clause-session g c = is_session_grown c.args.work.now.bank.now c.parts_of.new.bank c.in-Err-parts_of.ensures.grows c.args.session.now c.requires.session

pub declare_family-requires-clause-session : goal.declare_family-requires-clause-session
declare_family-requires-clause-session g c = is_session_grown c.args.work.now.bank.now c.parts_of.new.bank c.in-Ok-parts_of.ensures.grows c.args.session.now c.requires.session

pub returns-clause-answer : goal.returns-clause-answer
returns-clause-answer g c =
    let old = c.args.work.now.bank.now in
    let mid = c.parts_of.new.bank in
    let grows = c.in-Ok-parts_of.ensures.grows in
    let s = c.args.session.now in
    let x = c.in-Ok-parts_of.parts.0 in
    let bs = joined (map plain_binders c.deref.result.now) in
    does_grown old mid c.declare_family.new.work.bank.now grows s c.declare_family.new.session c.requires.session c.declare_family.result
    (needs_none (session_of mid s) (inductive (session_of mid s) (text_of mid x) bs (plain c.args.kind.now) (map plain_constructor c.args.constructors.now)))
    (command_done (session_of old s) (plain_vernac (Vernac.Inductive c.args.name.now c.args.groups c.args.kind.now c.args.constructors.now)))
    (inductive_done old mid grows s c.requires.session x c.args.name.now c.in-Ok-parts_of.ensures.named c.args.groups bs
    (ap (λ ys. joined (map plain_binders ys)) c.deref.ensures.value ∙ c.in-Ok-parts_of.ensures.groups) c.args.kind.now c.args.constructors.now)
    (subst (λ cs. Does mid c.declare_family.new.work.bank.now c.declare_family.result s c.declare_family.new.session
    (needs_none (session_of mid s) (inductive (session_of mid s) (text_of mid x) bs (plain c.args.kind.now) (map plain_constructor cs)))) c.as_slice-2.ensures c.declare_family.ensures.answer)
