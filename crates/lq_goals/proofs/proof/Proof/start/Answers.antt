use Rattle.lq_goals.proofs.Exchanging.{start_is}
use Rattle.lq_goals.proofs.proof.Proof.start.Goals as goal

pub returns-clause-told : goal.returns-clause-told
returns-clause-told c = start_is c.alone.result c.new.result c.args.kind c.new.ensures c.alone.ensures.told
