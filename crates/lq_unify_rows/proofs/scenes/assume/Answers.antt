use Rattle.lq_unify_rows.proofs.Keeping.{scene-grown}
use Rattle.lq_unify_rows.proofs.scenes.assume.Goals as goal

pub returns-in_err-hypothesis : goal.returns-in_err-hypothesis
returns-in_err-hypothesis c = scene-grown c.args.bank.now c.hypothesis.new.bank c.args.store.now c.args.context.now c.args.declared.now c.in_err-hypothesis.ensures.grows c.requires.scene

pub push-requires-clause-scene : goal.push-requires-clause-scene
push-requires-clause-scene c = scene-grown c.args.bank.now c.hypothesis.new.bank c.args.store.now c.args.context.now c.args.declared.now c.in_ok-hypothesis.ensures.grows c.requires.scene
