use Rattle.std.proofs.Common.{◌∙◌}
use Rattle.lq_prims.proofs.LeaveLaws.{if_ok, without_none}
use Rattle.lq_prims.proofs.making.made_open.Goals as goal

pub returns : goal.returns
returns c = if_ok c.shelved.result (λ v h bank i s e. h bank i s e ∙ without_none _) c.shelved.ensures
