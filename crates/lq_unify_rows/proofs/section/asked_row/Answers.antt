use Rattle.lq_unify_rows.proofs.Keeping.{scene-grown}
use Rattle.lq_unify_rows.proofs.section.asked_row.Goals as goal

pub returns : goal.returns
returns c = scene-grown c.args.bank.now c.store_row.new.bank c.args.store.now c.args.context.now c.args.declared.now c.store_row.ensures c.requires.scene
