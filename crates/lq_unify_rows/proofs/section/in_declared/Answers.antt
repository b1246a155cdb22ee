use Rattle.lq_unify_rows.proofs.Keeping.{scene_new}
use Rattle.lq_unify_rows.proofs.section.in_declared.Goals as goal

pub in_store-requires : goal.in_store-requires
in_store-requires c = record { scene = scene_new c.args.bank.now c.in_ok-store.store c.args.declared.now c.in_ok-store.ensures.variables c.in_ok-store.ensures.values c.requires.declared }
