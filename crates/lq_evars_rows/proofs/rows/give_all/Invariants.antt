use Rattle.lq_evars_rows.specs.Looks.{IsKept}
use Rattle.lq_evars_rows.proofs.rows.give_all.Given as goal

-- the store is kept
abbrev pub invariant-loop-next : goal.invariant-loop-next
invariant-loop-next l = IsKept l.bank l.store
