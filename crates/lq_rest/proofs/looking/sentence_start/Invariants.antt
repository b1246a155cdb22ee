use Rattle.std.proofs.Common.{◌≡◌, ◌-◌, ◌≤◌, suc, length}
use Rattle.lq_lex.specs.Views.{from}
use Rattle.lq_sessions.specs.Rest.{looked_begun}
use Rattle.lq_rest.proofs.looking.sentence_start.Given as goal

abbrev pub invariant-loop-turn : goal.invariant-loop-turn
invariant-loop-turn l = record {
  same : looked_begun (suc (length l.whole.text.now)) l.whole.text.now (from l.whole l.start) ≡ looked_begun (l.turn-end - l.turn) l.whole.text.now (from l.whole l.at);
  within : l.at ≤ length l.whole.text.now;
}
