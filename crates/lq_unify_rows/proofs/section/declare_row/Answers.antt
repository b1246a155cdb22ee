use Rattle.lq_unify_rows.proofs.Keeping.{scene_declared}
use Rattle.lq_unify_rows.proofs.section.declare_row.Goals as goal

pub returns : goal.returns
returns c = scene_declared c.args.bank.now c.declared_row.new.bank c.args.store.now c.args.context.now c.args.declared.now c.declared_row.new.declared c.declared_row.ensures.grows c.requires.scene c.declared_row.ensures.declared
