use Rattle.lq_evars_rows.proofs.Keeping.{IsKept-grown}
use Rattle.lq_evars_rows.proofs.rows.fill.Goals as goal

pub returns-in_err-sort : goal.returns-in_err-sort
returns-in_err-sort c = IsKept-grown c.args.bank.now c.sort.new.bank c.args.store.now c.in_err-sort.ensures.grows c.requires

pub add_all-requires-clause-kept : goal.add_all-requires-clause-kept
add_all-requires-clause-kept c = IsKept-grown c.args.bank.now c.sort.new.bank c.args.store.now c.in_ok-sort.ensures.grows c.requires
