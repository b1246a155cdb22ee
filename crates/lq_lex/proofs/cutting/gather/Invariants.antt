use Rattle.std.proofs.Common.{◌≡◌, ◌-◌, ◌≤◌, suc, [], length, All}
use Rattle.std.specs.List.{list_any}
use Rattle.lq_grammar.specs.Cutting.{end_of, gathered}
use Rattle.lq_grammar.specs.Settled.{is_settled}
use Rattle.lq_lex.specs.Views.{from, IsSpanned, is_open_curly}
use Rattle.lq_lex.proofs.cutting.gather.Given as goal

abbrev pub invariant-loop-turn : goal.invariant-loop-turn
invariant-loop-turn l = record {
  same : gathered (suc (length l.view.text.now)) l.view.text.now [] (from l.view l.start) ≡ gathered (l.turn-end - l.turn) l.view.text.now l.tokens.items (from l.view l.at);
  settled : is_settled (suc (length l.view.text.now)) l.view.text.now [] (from l.view l.start) ≡ is_settled (l.turn-end - l.turn) l.view.text.now l.tokens.items (from l.view l.at);
  within : l.at ≤ length l.view.text.now;
  spanned : All (IsSpanned l.view.text.now) l.tokens.items;
  ended : l.end ≡ end_of l.tokens.items;
  braces : l.braced ≡ list_any (λ t. is_open_curly t.kind) l.tokens.items;
}
