use Rattle.std.proofs.Common.{Err, sym, subst}
use Rattle.lq_env.proofs.Grown.{IsEnv-grown}
use Rattle.lq_states.specs.Views.{proof_view}
use Rattle.lq_goals.specs.Held.{proof_of}
use Rattle.lq_sessions.specs.Sessions.{needs_proof}
use Rattle.lq_sessions.specs.Sentences.{shown}
use Rattle.lq_session.specs.Sessions.{session_of, IsOpened, Does}
use Rattle.std.specs.Prelude.{IfSome}
use Rattle.lq_session.proofs.SessionLaws.{without_proof, none_of}
use Rattle.lq_session.proofs.ShowLaws.{is_session_grown, proof_listed, view_found, goals_are, show_does, show_stops}
use Rattle.lq_session.proofs.showing.show.Goals as goal

pub returns-in_default-clause-answer : goal.returns-in_default-clause-answer
returns-in_default-clause-answer c = without_proof c.args.bank.now c.args.bank.now c.args.session.now (shown (session_of c.args.bank.now c.args.session.now)) (none_of c.args.session.now.opened c.in_default.not-Some)

pub view-requires-clause-listed : goal.view-requires-clause-listed
view-requires-clause-listed c =
    proof_listed (proof_of c.args.bank.now c.in-Some.opened.proof) (subst (λ z. IfSome z (IsOpened c.args.bank.now)) c.in-Some.is c.requires.session.opened).proof

pub proof_text-requires-clause-env : goal.proof_text-requires-clause-env
proof_text-requires-clause-env c = IsEnv-grown c.args.bank.now c.view.new.bank c.in-Ok.ensures.grows c.args.session.now.env c.requires.session.env

pub proof_text-requires-clause-goals : goal.proof_text-requires-clause-goals
proof_text-requires-clause-goals c =
    let f = view_found c.view.new.bank c.in-Ok.view (proof_view (proof_of c.args.bank.now c.in-Some.opened.proof)) c.in-Ok.ensures.told in
    (goals_are c.view.new.bank f.0.goals c.in-Ok.view.goals.items f.2.goals).0

pub returns-in_ok-text-in-Ok-clause-answer : goal.returns-in_ok-text-in-Ok-clause-answer
returns-in_ok-text-in-Ok-clause-answer c =
    show_does c.args.bank.now c.view.new.bank c.in-Ok.ensures.grows c.args.session.now c.requires.session c.in-Some.opened c.in-Some.is c.in-Ok.view c.in_ok-text-in-Ok.text c.in-Ok.ensures.told c.in_ok-text-in-Ok.ensures

pub returns-in-Err-clause-answer : goal.returns-in-Err-clause-answer
returns-in-Err-clause-answer c =
    subst (λ z. Does c.args.bank.now c.view.new.bank (Err z) c.args.session.now c.args.session.now (needs_proof (session_of c.args.bank.now c.args.session.now) (shown (session_of c.args.bank.now c.args.session.now)))) (sym c.from.ensures)
    (show_stops c.args.bank.now c.view.new.bank c.in-Err.ensures.grows c.args.session.now c.requires.session c.in-Some.opened c.in-Some.is c.in-Err.fault c.in-Err.ensures.told)

pub returns-in_err-text-in-Ok-clause-session : goal.returns-in_err-text-in-Ok-clause-session
returns-in_err-text-in-Ok-clause-session c = is_session_grown c.args.bank.now c.view.new.bank c.in-Ok.ensures.grows c.args.session.now c.requires.session

pub returns-in_ok-text-in-Ok-clause-session : goal.returns-in_ok-text-in-Ok-clause-session
returns-in_ok-text-in-Ok-clause-session c = is_session_grown c.args.bank.now c.view.new.bank c.in-Ok.ensures.grows c.args.session.now c.requires.session

pub returns-in-Err-clause-session : goal.returns-in-Err-clause-session
returns-in-Err-clause-session c = is_session_grown c.args.bank.now c.view.new.bank c.in-Err.ensures.grows c.args.session.now c.requires.session
