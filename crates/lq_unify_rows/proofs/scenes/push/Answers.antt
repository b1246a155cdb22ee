use Rattle.std.proofs.Common.{subst}
use Rattle.lq_unify_rows.specs.Scenes.{MayCome}
use Rattle.lq_unify_rows.proofs.Looking.{scene_next}
use Rattle.lq_unify_rows.proofs.scenes.push.Goals as goal

pub returns : goal.returns
returns c =
    scene_next c.args.bank.now c.args.store.now c.args.context.now c.push.new.self c.args.declared.now c.args.hypothesis c.requires.scene c.requires.hypothesis
    (subst (λ hs. MayCome c.args.bank.now c.args.store.now hs c.args.hypothesis) c.hypotheses.ensures (c.may_come.ensures c.if-not-may_come.false)) c.in_ok-push.ensures.ok
