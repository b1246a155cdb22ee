use Rattle.lq_evars_rows.specs.Looks.{IsKept}
use Rattle.lq_evars_rows.proofs.rows.add_all.Given as goal

-- the store is kept
abbrev pub invariant-loop : goal.invariant-loop
invariant-loop l = IsKept l.bank l.store
