use Rattle.std.proofs.Common.{subst, sym}
use Rattle.std.specs.Prelude.{map, option_map}
use Rattle.lq_session.specs.Sessions.{IsSession}
use Rattle.lq_ast.specs.Plain.{plain, plain_binders, joined}
use Rattle.lq_session.proofs.DeclareLaws.{define_does, define_stops, is_session_with}
use Rattle.lq_session.proofs.ShowLaws.{is_session_grown}
use Rattle.lq_session.proofs.defining.define_constant.Goals as goal

pub returns-in-Ok-define-clause-answer : goal.returns-in-Ok-define-clause-answer
returns-in-Ok-define-clause-answer g c =
    define_does c.args.work.now.bank.now c.define.new.work.bank.now c.args.session.now c.args.name (joined (map plain_binders c.args.groups.now)) (option_map (λ A. plain A.now) c.args.kind) (plain c.args.body.now) c.args.work.now.ticks.now.left c.define.new.work.ticks.now.left c.requires.budget c.in-Ok.ensures
    c.define.new.env c.in_ok-line.line c.in_ok-line.ensures c.in-Ok-define.ensures.answer

pub returns-in-Ok-define-clause-session : goal.returns-in-Ok-define-clause-session
returns-in-Ok-define-clause-session g c =
    is_session_with c.define.new.work.bank.now c.args.session.now c.define.new.env c.in-Ok.ensures.0 c.in-Ok-define.ensures.env c.in-Ok-define.ensures.plain

pub returns-in-Err-define-clause-answer : goal.returns-in-Err-define-clause-answer
returns-in-Err-define-clause-answer g c =
    define_stops c.args.work.now.bank.now c.define.new.work.bank.now c.args.session.now c.args.name (joined (map plain_binders c.args.groups.now)) (option_map (λ A. plain A.now) c.args.kind) (plain c.args.body.now) c.args.work.now.ticks.now.left c.define.new.work.ticks.now.left c.requires.budget c.in-Ok.ensures
    (record { env = c.define.new.env; steps = c.args.session.now.steps; kernel = c.args.session.now.kernel; opened = c.args.session.now.opened }) c.in-Err-define.stop c.in-Err-define.ensures.answer

pub returns-in-Err-define-clause-session : goal.returns-in-Err-define-clause-session
returns-in-Err-define-clause-session g c =
    subst (λ ds. IsSession c.define.new.work.bank.now (record { env = ds; steps = c.args.session.now.steps; kernel = c.args.session.now.kernel; opened = c.args.session.now.opened })) (sym c.in-Err-define.ensures.kept)
    (is_session_grown c.args.work.now.bank.now c.define.new.work.bank.now c.in-Err-define.ensures.grows c.args.session.now c.requires.session)
