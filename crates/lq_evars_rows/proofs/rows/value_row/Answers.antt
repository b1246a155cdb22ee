use Rattle.lq_evars_rows.proofs.Keeping.{IsKept-grown}
use Rattle.lq_evars_rows.proofs.rows.value_row.Goals as goal

pub add_all-requires-clause-kept : goal.add_all-requires-clause-kept
add_all-requires-clause-kept c = IsKept-grown c.args.bank.now c.sort.new.bank c.args.store.now c.in_ok-sort.ensures.grows c.requires

pub give-requires-clause-kept : goal.give-requires-clause-kept
give-requires-clause-kept c = IsKept-grown c.sort.new.bank c.nested.new.bank c.add_all.new.store c.in_ok-value.ensures.grows c.add_all.ensures
