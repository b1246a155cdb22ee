use Rattle.lq_env.specs.Environments.{IsEnv}
use Rattle.lq_kernel.specs.Closed.{IsContext}
use Rattle.lq_kernel_rows.proofs.section.each.Given as goal

-- the environment and the hypotheses stand in the bank
abbrev pub invariant-loop-line : goal.invariant-loop-line
invariant-loop-line l = record { env : IsEnv l.bank l.env; context : IsContext l.bank l.context }
