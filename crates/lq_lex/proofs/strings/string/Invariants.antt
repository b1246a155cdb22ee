use Rattle.std.proofs.Common.{◌≡◌, ◌-◌, ◌≤◌, false, length}
use Rattle.lq_grammar.specs.Tokens.{string_from}
use Rattle.lq_lex.specs.Views.{from}
use Rattle.lq_lex.proofs.strings.string.Given as goal

abbrev pub invariant-loop-c : goal.invariant-loop-c
invariant-loop-c l = record {
  same : string_from l.start false (from l.view l.begin) ≡ string_from l.start l.closing (from l.view l.at);
  ahead : l.start ≤ l.at;
  within : l.at ≤ length l.view.text.now;
}

abbrev pub decreases-loop-c : goal.decreases-loop-c
decreases-loop-c l = length l.view.text.now - l.at
