use Rattle.std.proofs.Common.{◌≡◌, ◌-◌, ◌≤◌, suc, [], length}
use Rattle.lq_lex.specs.Views.{from}
use Rattle.lq_sessions.specs.Rest.{looked}
use Rattle.lq_rest.proofs.looking.tokens_of.Given as goal

abbrev pub invariant-loop-turn : goal.invariant-loop-turn
invariant-loop-turn l = record {
  same : looked (suc (length l.view.text.now)) l.view.text.now [] (from l.view l.start) ≡ looked (l.turn-end - l.turn) l.view.text.now l.tokens.items (from l.view l.at);
  within : l.at ≤ length l.view.text.now;
}
