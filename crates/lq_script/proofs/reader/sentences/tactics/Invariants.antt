use Rattle.std.proofs.Common.{◌≡◌}
use Rattle.std.specs.Prelude.{map}
use Rattle.lq_output.specs.Grammar.{tactics_of}
use Rattle.lq_script.specs.Reading.{plain_tokens}
use Rattle.lq_script.specs.Rows.{plain_row, row_len}
use Rattle.lq_script.specs.Syntax.{plain_tactic}
use Rattle.lq_script.proofs.GrammarLaws.{behind_tactics, tactics_in}
use Rattle.lq_script.proofs.reader.sentences.tactics.Given as goal

abbrev pub invariant-loop-rest : goal.invariant-loop-rest
invariant-loop-rest l = behind_tactics (map plain_tactic l.tactics.items) (tactics_in (plain_row l.rest)) ≡ tactics_of (plain_tokens l.tokens)

abbrev pub decreases-loop-rest : goal.decreases-loop-rest
decreases-loop-rest l = row_len l.rest
