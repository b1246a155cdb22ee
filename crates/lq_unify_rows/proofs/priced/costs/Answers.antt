use Rattle.lq_unify_rows.proofs.Keeping.{scene_after}
use Rattle.lq_unify_rows.proofs.priced.costs.Goals as goal

pub spends-requires-in-Some : goal.spends-requires-in-Some
spends-requires-in-Some c = record { scene = scene_after c.args.bank.now c.spends.new.bank c.args.store.now c.spends.new.store c.args.context.now c.args.declared.now c.spends.ensures.grows c.spends.ensures.store c.requires.scene }
