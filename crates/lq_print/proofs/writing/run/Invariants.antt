use Rattle.std.proofs.Common.{◌+◌, ◌*◌, ℕ, List, length}
use Rattle.std.specs.String.{string_bytes}
use Rattle.lq_calculus.specs.Declarations.{Env}
use Rattle.lq_print.specs.Pages.{HasPage, Writes}
use Rattle.lq_print.proofs.writing.run.Given as goal

-- what is written and what is left come to what all came to
abbrev pub invariant-loop-item : goal.invariant-loop-item
invariant-loop-item l = record {
  page : HasPage l.bank l.binders.items l.work.items l.spelling;
  writes :
      (env : Env) (text : List ℕ) → Writes l.bank env text (string_bytes l.fn.out) l.fn.binders.items l.fn.work.items l.fn.spelling
      → Writes l.bank env text (string_bytes l.out) l.binders.items l.work.items l.spelling;
}

abbrev pub decreases-loop-item : goal.decreases-loop-item
decreases-loop-item l = 9 * length l.spelling.pieces.items + length l.work.items
