use Rattle.lq_ast.specs.Plain.{plain}
use Rattle.lq_env.proofs.Grown.{IsEnv-grown}
use Rattle.lq_session.proofs.CheckLaws.{check_does, check_stops}
use Rattle.lq_session.proofs.ShowLaws.{is_session_grown}
use Rattle.lq_session.proofs.checking.check.Goals as goal

pub check_text-requires-clause-env : goal.check_text-requires-clause-env
check_text-requires-clause-env g c = IsEnv-grown c.args.work.now.bank.now c.check_term.new.work.bank.now c.in-Ok-check_term.ensures.grows c.args.session.now.env c.requires.session.env

pub returns-in-Ok-check_text-clause-answer : goal.returns-in-Ok-check_text-clause-answer
returns-in-Ok-check_text-clause-answer g c =
    check_does c.args.work.now.bank.now c.check_term.new.work.bank.now c.in-Ok-check_term.ensures.grows c.args.session.now c.requires.session c.in-Ok.place.0 c.in-Ok.place.1 c.in-Ok.ensures (plain c.args.term.now) c.args.work.now.ticks.now.left c.check_term.new.work.ticks.now.left c.requires.budget
    c.in-Ok-check_term.typed c.in-Ok-check_text.line c.in-Ok-check_text.ensures c.in-Ok-check_term.ensures.answer.2

pub returns-in-Ok-check_text-clause-session : goal.returns-in-Ok-check_text-clause-session
returns-in-Ok-check_text-clause-session g c = is_session_grown c.args.work.now.bank.now c.check_term.new.work.bank.now c.in-Ok-check_term.ensures.grows c.args.session.now c.requires.session

pub returns-in-Ok-check_term-clause-session : goal.returns-in-Ok-check_term-clause-session
returns-in-Ok-check_term-clause-session g c = is_session_grown c.args.work.now.bank.now c.check_term.new.work.bank.now c.in-Ok-check_term.ensures.grows c.args.session.now c.requires.session

pub returns-clause-answer : goal.returns-clause-answer
returns-clause-answer g c =
    check_stops c.args.work.now.bank.now c.check_term.new.work.bank.now c.in-Err-check_term.ensures.grows c.args.session.now c.requires.session c.in-Ok.place.0 c.in-Ok.place.1 c.in-Ok.ensures (plain c.args.term.now) c.args.work.now.ticks.now.left c.check_term.new.work.ticks.now.left c.requires.budget
    c.in-Err-check_term.stop c.in-Err-check_term.ensures.answer

pub returns-clause-session : goal.returns-clause-session
returns-clause-session g c = is_session_grown c.args.work.now.bank.now c.check_term.new.work.bank.now c.in-Err-check_term.ensures.grows c.args.session.now c.requires.session
