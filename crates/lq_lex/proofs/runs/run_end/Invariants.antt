use Rattle.std.proofs.Common.{◌≡◌, ◌-◌, ◌≤◌, length}
use Rattle.lq_grammar.specs.Cells.{past}
use Rattle.lq_lex.specs.Views.{from, test_of}
use Rattle.lq_lex.proofs.runs.run_end.Given as goal

abbrev pub invariant-loop-next : goal.invariant-loop-next
invariant-loop-next l = record {
  same : past (test_of l.run) (from l.view l.start) ≡ past (test_of l.run) (from l.view l.at);
  ahead : l.start ≤ l.at;
  within : l.at ≤ length l.view.text.now;
}

abbrev pub decreases-loop-next : goal.decreases-loop-next
decreases-loop-next l = length l.view.text.now - l.at
