use Rattle.std.proofs.Common.{refl, ap}
use Rattle.lq_trees.specs.declared.Measure.{Measure}
use Rattle.lq_env.proofs.DraftLaws.{draft_push}
use Rattle.lq_env.proofs.premises.push_binder.Goals as goal

pub returns-clause-draft : goal.returns-clause-draft
returns-clause-draft c =
    draft_push c.args.bank.now c.args.draft.now _ c.args.binder c.measure.result.size c.requires.draft c.requires.binder c.in-Ok.ensures.items refl refl (ap (λ (m : Measure). m.size) c.measure.ensures) c.if-nodes-gt-MOST_NODES.false
