use Rattle.std.proofs.Common.{◌∙◌, sym}
use Rattle.std.specs.Char.{is_ascii_digit}
use Rattle.lq_lex.proofs.FrontLaws.{run_goes, run_stops, run_ends}
use Rattle.lq_lex.proofs.WordLaws.{digit_read, digit_none, digit_over}
use Rattle.lq_lex.proofs.numbers.digit_at.Goals as goal

pub returns-in_default : goal.returns-in_default
returns-in_default c =
    (run_ends c.args.view.now is_ascii_digit c.args.at c.front.result c.front.ensures c.in_default.not-Letter, digit_over c.args.view.now c.args.at c.front.result c.front.ensures c.in_default.not-Letter)

pub returns-then-is_ascii_digit : goal.returns-then-is_ascii_digit
returns-then-is_ascii_digit c =
    let is = sym c.is_ascii_digit.ensures.value ∙ c.if-is_ascii_digit.true in
    (run_goes c.args.view.now is_ascii_digit c.args.at c.in-Letter.c c.in-Letter.next c.in-Letter.ensures is, digit_read c.args.view.now c.args.at c.in-Letter.c c.in-Letter.next c.in-Letter.ensures is, c.in-Letter.ensures.1, c.in-Letter.ensures.2)

pub returns-else-is_ascii_digit : goal.returns-else-is_ascii_digit
returns-else-is_ascii_digit c =
    let is = sym c.is_ascii_digit.ensures.value ∙ c.if-is_ascii_digit.false in
    (run_stops c.args.view.now is_ascii_digit c.args.at c.in-Letter.c c.in-Letter.next c.in-Letter.ensures is, digit_none c.args.view.now c.args.at c.in-Letter.c c.in-Letter.next c.in-Letter.ensures is)
