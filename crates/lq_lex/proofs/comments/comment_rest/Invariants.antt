use Rattle.std.proofs.Common.{◌≡◌, ◌-◌, ◌≤◌, length}
use Rattle.lq_grammar.specs.Tokens.{comment_from}
use Rattle.lq_lex.specs.Views.{from}
use Rattle.lq_lex.proofs.comments.comment_rest.Given as goal

abbrev pub invariant-loop-depth : goal.invariant-loop-depth
invariant-loop-depth l = record {
  same : comment_from l.start 1 0 (from l.view l.begin) ≡ comment_from l.start l.depth l.half (from l.view l.at);
  bounded : l.depth ≤ l.at;
  within : l.at ≤ length l.view.text.now;
}

abbrev pub decreases-loop-depth : goal.decreases-loop-depth
decreases-loop-depth l = length l.view.text.now - l.at
