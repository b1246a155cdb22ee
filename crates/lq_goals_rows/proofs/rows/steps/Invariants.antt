use Rattle.lq_goals_rows.specs.Looks.{IsKept, IsSort}
use Rattle.lq_goals_rows.proofs.rows.steps.Given as goal

-- the proof is kept, and the sort
abbrev pub invariant-loop-word : goal.invariant-loop-word
invariant-loop-word l = record {
  kept : IsKept l.bank l.proof;
  sort : IsSort l.bank l.sort;
}
