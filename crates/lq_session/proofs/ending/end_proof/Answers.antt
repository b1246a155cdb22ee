use Rattle.std.proofs.Common.{refl, None, subst, sym}
use Rattle.lq_terms.specs.Terms.{text_of, tree_of}
use Rattle.lq_env.specs.Environments.{env_of}
use Rattle.lq_goals.specs.Held.{proof_of}
use Rattle.lq_sessions.specs.Declaring.{closed}
use Rattle.lq_session.specs.Sessions.{session_of, IsSession}
use Rattle.lq_session.proofs.SessionLaws.{without_proof, none_of, end_does, end_stops}
use Rattle.lq_session.proofs.EndLaws.{closing_kept}
use Rattle.lq_session.proofs.ShowLaws.{is_session_grown}
use Rattle.lq_session.proofs.ending.end_proof.Goals as goal

pub returns-in_default-clause-answer : goal.returns-in_default-clause-answer
returns-in_default-clause-answer g c =
    without_proof c.args.work.now.bank.now c.args.work.now.bank.now c.args.session.now (λ o. closed (session_of c.args.work.now.bank.now c.args.session.now) o c.args.opaque)
    (none_of c.args.session.now.opened c.in_default.not-Some)

pub returns-in-Ok-clause-answer : goal.returns-in-Ok-clause-answer
returns-in-Ok-clause-answer g c =
    end_does c.args.work.now.bank.now c.declare_proved.new.work.bank.now c.args.session.now
    (record { env = c.declare_proved.new.env; steps = c.args.session.now.steps; kernel = c.args.session.now.kernel; opened = None }) c.in-Some.opened c.in-Some.is c.args.opaque c.args.work.now.ticks.now.left
    c.declare_proved.new.work.ticks.now.left c.requires.budget c.declare_proved.new.env c.in_ok-line.line refl c.in_ok-line.ensures c.in-Ok.ensures.answer

pub returns-in-Err-clause-answer : goal.returns-in-Err-clause-answer
returns-in-Err-clause-answer g c =
    end_stops c.args.work.now.bank.now c.declare_proved.new.work.bank.now c.args.session.now
    (record { env = c.declare_proved.new.env; steps = c.args.session.now.steps; kernel = c.args.session.now.kernel; opened = c.args.session.now.opened }) c.in-Some.opened c.in-Some.is c.args.opaque
    c.args.work.now.ticks.now.left c.declare_proved.new.work.ticks.now.left c.requires.budget c.in-Err.stop c.in-Err.ensures.answer

pub returns-in-Ok-clause-session : goal.returns-in-Ok-clause-session
returns-in-Ok-clause-session g c = record {
  env = c.in-Ok.ensures.env;
  plain = closing_kept (env_of c.args.work.now.bank.now c.args.session.now.env) (env_of c.declare_proved.new.work.bank.now c.declare_proved.new.env) (text_of c.args.work.now.bank.now c.in-Some.opened.name)
      (tree_of c.args.work.now.bank.now c.in-Some.opened.statement) (proof_of c.args.work.now.bank.now c.in-Some.opened.proof) c.args.opaque c.args.work.now.ticks.now.left c.declare_proved.new.work.ticks.now.left
      c.requires.session.plain c.in-Ok.ensures.answer;
  opened = tt;
}

pub returns-in-Err-clause-session : goal.returns-in-Err-clause-session
returns-in-Err-clause-session g c =
    subst (λ ds. IsSession c.declare_proved.new.work.bank.now (record { env = ds; steps = c.args.session.now.steps; kernel = c.args.session.now.kernel; opened = c.args.session.now.opened })) (sym c.in-Err.ensures.kept)
    (is_session_grown c.args.work.now.bank.now c.declare_proved.new.work.bank.now c.in-Err.ensures.grows c.args.session.now c.requires.session)
