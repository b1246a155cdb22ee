use Rattle.lq_terms.specs.Terms.{Grows}
use Rattle.lq_goals_rows.specs.Looks.{IsKept, IsSort}
use Rattle.lq_goals_rows.proofs.steps.solve.Given as goal

-- the proof is kept, and the sort
abbrev pub invariant-loop : goal.invariant-loop
invariant-loop l = record {
  kept : IsKept l.bank l.proof;
  sort : IsSort l.bank l.sort;
  grows : Grows l.initial.bank l.bank;
}
