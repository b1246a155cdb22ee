use Rattle.std.proofs.Common.{◌≡◌, ◌-◌, ◌≤◌, suc, length}
use Rattle.lq_grammar.specs.Cutting.{begun}
use Rattle.lq_grammar.specs.Settled.{begins_settled}
use Rattle.lq_lex.specs.Views.{from}
use Rattle.lq_lex.proofs.cutting.sentence_start.Given as goal

abbrev pub invariant-loop-turn : goal.invariant-loop-turn
invariant-loop-turn l = record {
  same : begun (suc (length l.view.text.now)) l.view.text.now (from l.view l.start) ≡ begun (l.turn-end - l.turn) l.view.text.now (from l.view l.at);
  settled : begins_settled (suc (length l.view.text.now)) l.view.text.now (from l.view l.start) ≡ begins_settled (l.turn-end - l.turn) l.view.text.now (from l.view l.at);
  within : l.at ≤ length l.view.text.now;
}
