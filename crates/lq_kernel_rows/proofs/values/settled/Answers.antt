use Rattle.std.proofs.Common.{◌∙◌, ap, ◌++◌, ◌∷◌, []}
use Rattle.lq_kernel_rows.proofs.Settling.{values_put}
use Rattle.lq_kernel_rows.proofs.values.settled.Goals as goal

pub returns : goal.returns
returns c =
    values_put c.args.bank.now c.push.new.self c.args.hypothesis c.args.values.items c.deref.result.now (c.in_ok-push.ensures.ok ∙ ap (λ z. z ++ c.args.hypothesis ∷ []) c.new-context.ensures) c.deref.ensures.value (c.are_values.ensures c.if-not-are_values.false)
