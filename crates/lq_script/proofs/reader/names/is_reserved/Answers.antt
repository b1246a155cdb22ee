use Rattle.lq_trees.specs.Fresh.{is_listed}
use Rattle.lq_script.proofs.reader.names.is_reserved.Goals as goal

pub returns : goal.returns
unfolding is_listed
returns c = c.contains.ensures.value
