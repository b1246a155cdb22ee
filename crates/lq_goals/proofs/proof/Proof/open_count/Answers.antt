use Rattle.std.proofs.Common.{◌∙◌, ap, length}
use Rattle.lq_goals.proofs.Exchanging.{count_is}
use Rattle.lq_goals.proofs.proof.Proof.open_count.Goals as goal

pub returns : goal.returns
returns c bank = ap length c.focused.ensures ∙ count_is bank c.args.self.now
