use Rattle.lq_kernel.proofs.Leaves.{kept_types}
use Rattle.lq_kernel.proofs.Told.{own}
use Rattle.lq_kernel.proofs.lookups.kept_type.Goals as goal

pub returns-in-Some : goal.returns-in-Some
returns-in-Some c tree b e w = kept_types c.args.bank.now _ c.in-Some.kind c.within_limits.result tree b (c.in-Some.ensures.told c.args.bank.now c.requires.env (own c.args.bank.now c.args.name c.names_apart.ensures c.requires.name)) c.within_limits.ensures e w
