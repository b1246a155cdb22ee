use Rattle.lq_unify_rows.proofs.Keeping.{scene-grown, scene_same, scene_given}
use Rattle.lq_unify_rows.proofs.scenes.assign.Goals as goal

pub returns-in-Ok : goal.returns-in-Ok
returns-in-Ok c =
    scene_given c.args.bank.now c.assign.new.bank c.args.store.now c.assign.new.self c.args.variable c.args.body c.args.context.now c.args.declared.now c.in-Ok.ensures.grows c.requires.scene c.requires.body
    (c.may_get.ensures c.if-not-may_get.false) c.in-Ok.ensures.given c.in-Ok.ensures.has c.in-Ok.ensures.stands

pub returns-in-Err : goal.returns-in-Err
returns-in-Err c =
    scene_same c.assign.new.bank c.args.store.now c.assign.new.self c.args.context.now c.args.declared.now c.in-Err.ensures.kept
    (scene-grown c.args.bank.now c.assign.new.bank c.args.store.now c.args.context.now c.args.declared.now c.in-Err.ensures.grows c.requires.scene)
