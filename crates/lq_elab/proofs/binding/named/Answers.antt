use Rattle.std.proofs.Common.{arith}
use Rattle.lq_elab.proofs.BindSteps.{new_name}
use Rattle.lq_elab.proofs.binding.named.Goals as goal

pub returns-clause-new : goal.returns-clause-new
returns-clause-new c = new_name c.args.bank.now c.name_under.new.bank c.args.context.now (omega (arith, c.requires.count, c.ranges.count.fits)) c.args.binder c.in_ok-name.name c.in_ok-name.ensures.name.is
