use Rattle.std.specs.String.{string_bytes}
use Rattle.lq_env.specs.Environments.{env_of}
use Rattle.lq_print.proofs.GoalLaws.{no_goals, one_more_goal}
use Rattle.lq_print.proofs.views.write_goals.Goals as goal

pub loop-place-init : goal.loop-place-init
loop-place-init c = no_goals (env_of c.args.bank.now c.args.env.now) (string_bytes c.args.out.now)

pub loop-place-preserved : goal.loop-place-preserved
loop-place-preserved c =
    one_more_goal c.args.bank.now (env_of c.args.bank.now c.args.env.now) (string_bytes c.args.out.now) (string_bytes c.loop-place.out) (string_bytes c.write_goal.new.out)
    c.args.goals.now c.loop-place.place c.index-goals-place.result c.loop-place-test.true c.index-goals-place.is c.loop-place.invariant c.in_ok-write_goal.ensures
