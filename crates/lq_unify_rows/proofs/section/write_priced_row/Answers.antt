use Rattle.lq_unify_rows.proofs.Keeping.{scene_after}
use Rattle.lq_unify_rows.proofs.section.write_priced_row.Goals as goal

pub returns : goal.returns
returns c = scene_after c.args.bank.now c.priced_row.new.bank c.args.store.now c.priced_row.new.store c.args.context.now c.args.declared.now c.priced_row.ensures.grows c.priced_row.ensures.store c.requires.scene
