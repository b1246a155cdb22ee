use Rattle.lq_unify_rows.proofs.Keeping.{scene-grown}
use Rattle.lq_unify_rows.proofs.scenes.make.Goals as goal

pub returns-in_err-kind : goal.returns-in_err-kind
returns-in_err-kind c = scene-grown c.args.bank.now c.build.new.bank c.args.store.now c.args.context.now c.args.declared.now c.in_err-kind.ensures.grows c.requires.scene

pub add_many-requires-clause-scene : goal.add_many-requires-clause-scene
add_many-requires-clause-scene c = scene-grown c.args.bank.now c.build.new.bank c.args.store.now c.args.context.now c.args.declared.now c.in_ok-kind.ensures.grows c.requires.scene
