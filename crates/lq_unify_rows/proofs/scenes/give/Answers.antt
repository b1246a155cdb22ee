use Rattle.lq_unify_rows.proofs.Keeping.{scene-grown}
use Rattle.lq_unify_rows.proofs.scenes.give.Goals as goal

pub returns-in_err-body : goal.returns-in_err-body
returns-in_err-body c = scene-grown c.args.bank.now c.build.new.bank c.args.store.now c.args.context.now c.args.declared.now c.in_err-body.ensures.grows c.requires.scene

pub assign-requires-clause-scene : goal.assign-requires-clause-scene
assign-requires-clause-scene c = scene-grown c.args.bank.now c.build.new.bank c.args.store.now c.args.context.now c.args.declared.now c.in_ok-body.ensures.grows c.requires.scene
