use Rattle.std.proofs.Common.{◌≡◌, ◌<◌, false, length}
use Rattle.lq_output.specs.Script.{is_clear}
use Rattle.lq_output.specs.Tokens.{before_tokens, tokens}
use Rattle.lq_script.specs.Reading.{plain_tokens}
use Rattle.lq_script.proofs.reader.lexer.tokens.Given as goal

abbrev pub invariant-loop-rest : goal.invariant-loop-rest
invariant-loop-rest l = record {
  told : before_tokens (plain_tokens l.tokens.items) (tokens l.rest) ≡ tokens l.text;
  begins : 0 < length l.rest → is_clear l.rest ≡ false;
}

abbrev pub decreases-loop-rest : goal.decreases-loop-rest
decreases-loop-rest l = length l.rest
