use Rattle.std.proofs.Common.{rules}
use Rattle.lq_print.proofs.PieceLaws.{spells_name}
use Rattle.lq_print.proofs.spelling.put_name.Goals as goal

pub returns : goal.returns
returns c bank sound =
    spells_name bank c.args.spelling.now _ sound c.in_ok-number.number c.args.text.now c.in_ok-number.ensures.added c.in_ok-number.ensures.longer (search rules) (search rules) (search rules)
