use Rattle.std.proofs.Common.{[]}
use Rattle.lq_unify_rows.proofs.Keeping.{scene_empty}
use Rattle.lq_unify_rows.proofs.section.in_store.Goals as goal

pub each-requires : goal.each-requires
each-requires c = record { scene = scene_empty c.args.bank.now c.args.store.now [] c.new-context.result c.args.declared.now c.new-context.ensures c.requires.scene }
