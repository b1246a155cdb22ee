use Rattle.std.proofs.Common.{sym, subst}
use Rattle.lq_env.specs.Environments.{IsEnv}
use Rattle.lq_env.proofs.Grown.{IsEnv-grown}
use Rattle.lq_kernel_rows.proofs.declaring.add.Goals as goal

pub returns-in-Err-clause-env : goal.returns-in-Err-clause-env
returns-in-Err-clause-env c =
    subst (IsEnv c.add_inductive.new.bank) (sym c.in-Err.ensures.kept)
    (IsEnv-grown c.args.bank.now c.add_inductive.new.bank c.add_inductive.ensures.grows c.args.env.now c.requires.env)
