use Rattle.lq_unify_rows.proofs.Keeping.{scene_empty}
use Rattle.lq_unify_rows.proofs.section.forget_row.Goals as goal

pub returns : goal.returns
returns c = scene_empty c.args.bank.now c.args.store.now c.args.context.now c.forget.new.context c.args.declared.now c.forget.ensures c.requires.scene
