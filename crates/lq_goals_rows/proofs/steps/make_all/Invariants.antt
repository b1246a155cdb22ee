use Rattle.lq_goals_rows.specs.Looks.{IsKept}
use Rattle.lq_goals_rows.proofs.steps.make_all.Given as goal

-- the proof is kept
abbrev pub invariant-loop : goal.invariant-loop
invariant-loop l = IsKept l.bank l.proof
