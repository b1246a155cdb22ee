use Rattle.std.proofs.Common.{◌≡◌, ◌≤◌, length}
use Rattle.lq_output.specs.Grammar.{behind_blanks}
use Rattle.lq_script.proofs.reader.lexer.behind_blanks.Given as goal

abbrev pub invariant-loop-rest : goal.invariant-loop-rest
invariant-loop-rest l = record { same : behind_blanks l.rest ≡ behind_blanks l.text; within : length l.rest ≤ length l.text }

abbrev pub decreases-loop-rest : goal.decreases-loop-rest
decreases-loop-rest l = length l.rest
