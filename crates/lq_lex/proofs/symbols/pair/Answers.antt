use Rattle.std.proofs.Common.{arith}
use Rattle.lq_lex.proofs.WordLaws.{pair_ends, pair_crosses}
use Rattle.lq_lex.proofs.symbols.pair.Goals as goal

pub returns-in-Letter : goal.returns-in-Letter
returns-in-Letter c =
    rw c.token.ensures (pair_ends c.args.view.now c.args.pair c.args.start c.args.at c.in-Letter.field-0 c.in-Letter.next c.in-Letter.ensures, omega (arith, c.in-Letter.ensures.1, c.requires.order), c.in-Letter.ensures.2)

pub returns-in_default : goal.returns-in_default
returns-in_default c = pair_crosses c.args.view.now c.args.pair c.args.start c.args.at c.front.result c.front.ensures c.in_default.not-Letter
