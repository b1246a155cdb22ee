use Rattle.std.proofs.Common.{◌≡◌, ◌-◌, ◌<◌, ◌≤◌, ◌^◌, length}
use Rattle.std.specs.Prelude.{IfSome}
use Rattle.std.specs.Char.{is_ascii_digit}
use Rattle.lq_grammar.specs.Cells.{past}
use Rattle.lq_grammar.specs.Tokens.{value_from}
use Rattle.lq_lex.specs.Views.{from, Values}
use Rattle.lq_lex.proofs.numbers.digits.Given as goal

abbrev pub invariant-loop-digit : goal.invariant-loop-digit
invariant-loop-digit l = record {
  values : Values l.value (from l.view l.at) (value_from 0 (from l.view l.start));
  fits : IfSome l.value (λ n. n < 2 ^ 128);
  same : past is_ascii_digit (from l.view l.start) ≡ past is_ascii_digit (from l.view l.at);
  ahead : l.start ≤ l.at;
  within : l.at ≤ length l.view.text.now;
}

abbrev pub decreases-loop-digit : goal.decreases-loop-digit
decreases-loop-digit l = length l.view.text.now - l.at
