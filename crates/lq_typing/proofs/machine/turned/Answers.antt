use Rattle.std.proofs.Common.{sym, Ok}
use Rattle.std.proofs.Common.{subst as along}
use Rattle.lq_env.specs.Environments.{env_of}
use Rattle.lq_typing.specs.declared.waiting.Turn.{Turn}
use Rattle.lq_typing.specs.Frames.{turn_work}
use Rattle.lq_typing.specs.Going.{Goes}
use Rattle.lq_typing.proofs.machine.turned.Goals as goal

pub returns-in_ok-turn-in-Ask-clause-goes : goal.returns-in_ok-turn-in-Ask-clause-goes
returns-in_ok-turn-in-Ask-clause-goes g c =
    along (λ z. Goes c.asked.new.work.bank.now c.args.store.now (env_of c.args.work.now.bank.now c.args.env.now) c.args.context.now c.asked.new.waiting (Ok c.in_ok-turn-in-Ask.turn) (turn_work c.args.work.now.bank.now c.args.store.now (env_of c.args.work.now.bank.now c.args.env.now) c.args.context.now c.args.waiting.now z) c.args.work.now.ticks.now.left c.asked.new.work.ticks.now.left) (sym c.in-Ask.is) c.in_ok-turn-in-Ask.ensures.goes

pub returns-in_ok-turn-in-Found-clause-goes : goal.returns-in_ok-turn-in-Found-clause-goes
returns-in_ok-turn-in-Found-clause-goes g c =
    along (λ z. Goes c.resumed.new.work.bank.now c.args.store.now (env_of c.args.work.now.bank.now c.args.env.now) c.resumed.new.context c.resumed.new.waiting (Ok c.in_ok-turn-in-Found.turn) (turn_work c.args.work.now.bank.now c.args.store.now (env_of c.args.work.now.bank.now c.args.env.now) c.args.context.now c.args.waiting.now z) c.args.work.now.ticks.now.left c.resumed.new.work.ticks.now.left) (sym c.in-Found.is)
    (along (λ z. Goes c.resumed.new.work.bank.now c.args.store.now (env_of c.args.work.now.bank.now c.args.env.now) c.resumed.new.context c.resumed.new.waiting (Ok c.in_ok-turn-in-Found.turn) (turn_work c.args.work.now.bank.now c.args.store.now (env_of c.args.work.now.bank.now c.args.env.now) c.args.context.now z (Turn.Found c.in-Found.kind)) c.args.work.now.ticks.now.left c.resumed.new.work.ticks.now.left) (sym c.in-Some.ensures)
    c.in_ok-turn-in-Found.ensures.goes)
