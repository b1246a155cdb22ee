use Rattle.std.proofs.Common.{◌∙◌}
use Rattle.std.specs.Prelude.{map}
use Rattle.lq_ast.specs.Plain.{plain, plain_binders, joined}
use Rattle.lq_session.proofs.DeclareLaws.{state_does, state_stops, is_session_open}
use Rattle.lq_session.proofs.ShowLaws.{is_session_grown}
use Rattle.lq_session.proofs.stating.state_theorem.Goals as goal

pub returns-in-Err-state-clause-answer : goal.returns-in-Err-state-clause-answer
returns-in-Err-state-clause-answer g c =
    state_stops c.args.work.now.bank.now c.state.new.work.bank.now c.in-Err-state.ensures.grows c.args.session.now c.requires.session c.args.name c.requires.name (joined (map plain_binders c.args.groups.now)) (plain c.args.kind.now) c.args.work.now.ticks.now.left c.state.new.work.ticks.now.left c.requires.budget
    c.in-Ok.ensures (record { env = c.args.session.now.env; steps = c.args.session.now.steps; kernel = c.args.session.now.kernel; opened = c.args.session.now.opened }) c.in-Err-state.stop c.in-Err-state.ensures.answer

pub returns-in-Err-state-clause-session : goal.returns-in-Err-state-clause-session
returns-in-Err-state-clause-session g c = is_session_grown c.args.work.now.bank.now c.state.new.work.bank.now c.in-Err-state.ensures.grows c.args.session.now c.requires.session

pub returns-in_err-opened-clause-session : goal.returns-in_err-opened-clause-session
returns-in_err-opened-clause-session g c = is_session_grown c.args.work.now.bank.now c.state.new.work.bank.now c.in-Ok-state.ensures.grows c.args.session.now c.requires.session

pub returns-clause-answer : goal.returns-clause-answer
returns-clause-answer g c =
    state_does c.args.work.now.bank.now c.state.new.work.bank.now c.in-Ok-state.ensures.grows c.args.session.now c.requires.session c.args.name c.requires.name (joined (map plain_binders c.args.groups.now)) (plain c.args.kind.now) c.args.work.now.ticks.now.left c.state.new.work.ticks.now.left c.requires.budget
    c.in-Ok.ensures c.in_ok-opened.opened c.in-Ok-state.statement c.from_string.result c.in_ok-opened.ensures.told (c.from_string.ensures ∙ c.new.ensures.bytes) c.in-Ok-state.ensures.answer

pub returns-clause-session : goal.returns-clause-session
returns-clause-session g c =
    is_session_open c.args.work.now.bank.now c.state.new.work.bank.now c.in-Ok-state.ensures.grows c.args.session.now c.requires.session c.args.name c.requires.name (joined (map plain_binders c.args.groups.now)) (plain c.args.kind.now) c.args.work.now.ticks.now.left c.state.new.work.ticks.now.left c.requires.budget
    c.in-Ok.ensures c.in_ok-opened.opened c.in_ok-opened.ensures.is
