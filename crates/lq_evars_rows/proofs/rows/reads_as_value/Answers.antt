use Rattle.lq_evars_rows.proofs.Keeping.{IsKept-grown}
use Rattle.lq_evars_rows.proofs.rows.reads_as_value.Goals as goal

pub alike-requires-clause-kept : goal.alike-requires-clause-kept
alike-requires-clause-kept c =
    IsKept-grown c.link.new.bank c.body.new.bank c.args.store.now c.in_ok-value.ensures.grows (IsKept-grown c.args.bank.now c.link.new.bank c.args.store.now c.in_ok-first.ensures.grows c.requires)
