use Rattle.std.proofs.Common.{Ok}
use Rattle.lq_stream.specs.declared.turns.Doing.TheVariants.{Success, Failure, Look}
use Rattle.lq_stream.proofs.TurnLaws.{turns_as, turns_of, look_some}
use Rattle.lq_stream.proofs.turning.turn.Goals as goal

pub look-requires-clause-some : goal.look-requires-clause-some
look-requires-clause-some g c =
    look_some g.M.Machine.rank g.M.Machine.rest_rank (g.M.Machine.does c.args.machine.now) (record { told = g.M.Machine.told c.args.machine.now; state = g.M.Machine.state c.args.machine.now; messages = g.M.Machine.messages c.args.machine.now; left = c.args.ticks.now.left; links = c.args.stacks.now.links.items; choices = c.args.stacks.now.choices.items }) c.args.doing c.args.place c.requires.works.0 c.in-Look.is c.requires.works.1

pub returns-in-Success-clause-turns : goal.returns-in-Success-clause-turns
returns-in-Success-clause-turns g c =
    turns_of g.M.Machine.rank g.M.Machine.rest_rank (g.M.Machine.does c.args.machine.now) (record { told = g.M.Machine.told c.args.machine.now; state = g.M.Machine.state c.args.machine.now; messages = g.M.Machine.messages c.args.machine.now; left = c.args.ticks.now.left; links = c.args.stacks.now.links.items; choices = c.args.stacks.now.choices.items }) (record { told = g.M.Machine.told c.go_on.new.machine; state = g.M.Machine.state c.go_on.new.machine; messages = g.M.Machine.messages c.go_on.new.machine; left = c.args.ticks.now.left; links = c.go_on.new.stacks.links.items; choices = c.go_on.new.stacks.choices.items }) (Success c.in-Success.value) c.args.doing c.args.place c.go_on.result c.in-Success.is (c.go_on.ensures.turns c.args.ticks.now.left) c.go_on.ensures.never

pub returns-in-Failure-clause-turns : goal.returns-in-Failure-clause-turns
returns-in-Failure-clause-turns g c =
    turns_as g.M.Machine.rank g.M.Machine.rest_rank (g.M.Machine.does c.args.machine.now) (record { told = g.M.Machine.told c.args.machine.now; state = g.M.Machine.state c.args.machine.now; messages = g.M.Machine.messages c.args.machine.now; left = c.args.ticks.now.left; links = c.args.stacks.now.links.items; choices = c.args.stacks.now.choices.items }) (record { told = g.M.Machine.told c.fail.new.machine; state = g.M.Machine.state c.fail.new.machine; messages = g.M.Machine.messages c.fail.new.machine; left = c.args.ticks.now.left; links = c.fail.new.stacks.links.items; choices = c.fail.new.stacks.choices.items }) (Failure c.in-Failure.level c.in-Failure.cause) c.args.doing c.args.place (Ok c.fail.result) c.in-Failure.is (c.fail.ensures.turns c.args.ticks.now.left)

pub returns-in-Look-clause-turns : goal.returns-in-Look-clause-turns
returns-in-Look-clause-turns g c =
    turns_as g.M.Machine.rank g.M.Machine.rest_rank (g.M.Machine.does c.args.machine.now) (record { told = g.M.Machine.told c.args.machine.now; state = g.M.Machine.state c.args.machine.now; messages = g.M.Machine.messages c.args.machine.now; left = c.args.ticks.now.left; links = c.args.stacks.now.links.items; choices = c.args.stacks.now.choices.items }) (record { told = g.M.Machine.told c.look.new.machine; state = g.M.Machine.state c.look.new.machine; messages = g.M.Machine.messages c.look.new.machine; left = c.args.ticks.now.left; links = c.look.new.stacks.links.items; choices = c.look.new.stacks.choices.items }) Look c.args.doing c.args.place (Ok c.look.result) c.in-Look.is (c.look.ensures.turns c.args.ticks.now.left)
