use Rattle.lq_terms.specs.Terms.{text_of}
use Rattle.lq_env.specs.Environments.{env_of}
use Rattle.lq_kernel.proofs.Leaves.{family_there, elim_high}
use Rattle.lq_kernel.proofs.Told.{own}
use Rattle.lq_calculus.specs.Declarations.{lookup}
use Rattle.lq_kernel.proofs.lookups.type_into.Goals as goal

pub returns-else-level-le-LAST_LEVEL : goal.returns-else-level-le-LAST_LEVEL
returns-else-level-le-LAST_LEVEL c b =
    elim_high c.args.bank.now c.args.name c.args.sort c.in-Level.level (lookup (env_of c.args.bank.now c.args.env.now) (text_of c.args.bank.now c.args.name)) (family_there c.args.bank.now c.args.env.now c.args.name c.requires.env (own c.args.bank.now c.args.name c.names_apart.ensures c.requires.name) c.requires.family) b c.requires.name c.in-Level.is c.if-level-le-LAST_LEVEL.false
