use Rattle.lq_unify_rows.proofs.Keeping.{scene-grown}
use Rattle.lq_unify_rows.proofs.reading.store_row.Goals as goal

pub reads-requires-clause-scene : goal.reads-requires-clause-scene
reads-requires-clause-scene c = scene-grown c.args.bank.now c.pair_of.new.bank c.args.store.now c.args.context.now c.args.declared.now c.in_ok-pair-in-read.ensures.grows c.requires.scene

pub is_alike-requires-clause-scene : goal.is_alike-requires-clause-scene
is_alike-requires-clause-scene c = scene-grown c.args.bank.now c.pair_of-in-alike.new.bank c.args.store.now c.args.context.now c.args.declared.now c.in_ok-pair-in-alike.ensures.grows c.requires.scene
