use Rattle.lq_evars_rows.proofs.Keeping.{IsKept-grown}
use Rattle.lq_evars_rows.proofs.rows.give_all.Goals as goal

pub returns-in_err-body : goal.returns-in_err-body
returns-in_err-body c = IsKept-grown c.loop-next.bank c.body.new.bank c.loop-next.store c.in_err-body.ensures.grows c.loop-next.invariant

pub give-requires-clause-kept : goal.give-requires-clause-kept
give-requires-clause-kept c = IsKept-grown c.loop-next.bank c.body.new.bank c.loop-next.store c.in_ok-body.ensures.grows c.loop-next.invariant
