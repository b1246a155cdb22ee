use Rattle.std.proofs.Common.{◌≡◌, ◌++◌, take, map}
use Rattle.std.specs.String.{string_bytes}
use Rattle.lq_env.specs.Environments.{env_of}
use Rattle.lq_texts.specs.Views.{goal_texts}
use Rattle.lq_print.specs.Goals.{goal_of}
use Rattle.lq_print.proofs.views.write_goals.Given as goal

abbrev pub invariant-loop-place : goal.invariant-loop-place
invariant-loop-place l = string_bytes l.out ≡ string_bytes l.fn.out ++ goal_texts (env_of l.bank l.env) 1 (map (goal_of l.bank) (take l.place l.goals))
