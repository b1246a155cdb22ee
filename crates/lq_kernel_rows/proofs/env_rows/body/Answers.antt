use Rattle.lq_kernel_rows.proofs.Scenes.{has_body}
use Rattle.lq_kernel_rows.proofs.env_rows.body.Goals as goal

pub returns : goal.returns
returns c = has_body c.args.bank.now c.args.env.now c.args.name c.delta.result c.delta.ensures c.requires
