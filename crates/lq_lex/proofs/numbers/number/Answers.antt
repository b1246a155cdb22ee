use Rattle.std.specs.Char.{is_ascii_digit}
use Rattle.lq_grammar.specs.Cells.{past}
use Rattle.lq_grammar.specs.Tokens.{value_from}
use Rattle.lq_lex.specs.Views.{from}
use Rattle.lq_lex.proofs.WordLaws.{number_too_large}
use Rattle.lq_lex.proofs.numbers.number.Goals as goal

pub returns-in-None : goal.returns-in-None
returns-in-None c =
    let total = value_from 0 (from c.args.view.now c.args.start) in
    number_too_large c.args.start total (past is_ascii_digit (from c.args.view.now c.args.start)) (rw c.in-None.is at c.digits-value.ensures.value)
