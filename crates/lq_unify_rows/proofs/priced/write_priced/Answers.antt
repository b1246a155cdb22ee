use Rattle.lq_unify_rows.proofs.Keeping.{scene_after}
use Rattle.lq_unify_rows.proofs.priced.write_priced.Goals as goal

pub costs-requires : goal.costs-requires
costs-requires c = record { scene = scene_after c.args.bank.now c.ask_under.new.bank c.args.store.now c.ask_under.new.store c.args.context.now c.args.declared.now c.ask_under.ensures.grows c.ask_under.ensures.store c.requires.scene }
