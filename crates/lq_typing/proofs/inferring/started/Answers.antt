use Rattle.std.proofs.Common.{refl}
use Rattle.lq_env.specs.Environments.{env_of}
use Rattle.lq_typing.proofs.RunLaws.{first_turn, call_comes}
use Rattle.lq_typing.proofs.inferring.started.Goals as goal

pub run-requires-clause-turn : goal.run-requires-clause-turn
run-requires-clause-turn g c = first_turn c.args.work.now.bank.now c.args.store.now c.args.context.now c.args.context.now c.new-waiting.result c.args.term refl c.new-waiting.ensures c.requires.turn

pub returns-clause-answer : goal.returns-clause-answer
returns-clause-answer g c =
    call_comes c.args.work.now.bank.now c.args.store.now (env_of c.args.work.now.bank.now c.args.env.now) c.args.context.now c.args.term c.run.new.work.bank.now c.run.result c.new-waiting.result c.args.context.now c.args.work.now.ticks.now.left c.run.new.work.ticks.now.left c.new-waiting.ensures refl c.run.ensures.answer
