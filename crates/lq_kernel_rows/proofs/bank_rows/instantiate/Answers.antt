use Rattle.std.proofs.Common.{◌∙◌, ◌∷◌, [], ◌++◌, ap, None}
use Rattle.lq_kernel_rows.proofs.Fits.{instance_fits}
use Rattle.lq_kernel_rows.proofs.bank_rows.instantiate.Goals as goal

pub instance-requires-clause-index : goal.instance-requires-clause-index
instance-requires-clause-index c =
    instance_fits c.args.bank.now c.push.new.self c.push-2.new.self (record { name = c.args.name; body = None; kind = c.args.value }) c.args.term c.args.value
    (c.in_ok-push.ensures.ok ∙ ap (λ z. z ++ record { name = c.args.name; body = None; kind = c.args.value } ∷ []) c.new-context.ensures) (c.in_ok-push-2.ensures.ok ∙ ap (λ z. z ++ c.args.value ∷ []) c.new-terms.ensures)
    c.requires.within c.requires.low
