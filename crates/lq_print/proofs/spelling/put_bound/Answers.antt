use Rattle.std.proofs.Common.{rules}
use Rattle.lq_print.proofs.PieceLaws.{spells_bound}
use Rattle.lq_print.proofs.spelling.put_bound.Goals as goal

pub returns : goal.returns
returns c bank sound = spells_bound bank c.args.spelling.now _ sound c.args.index (search rules) (search rules) c.mark.ensures (search rules)
