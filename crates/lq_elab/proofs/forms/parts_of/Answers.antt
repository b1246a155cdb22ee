use Rattle.lq_elab.proofs.FormLaws.{other_wanted}
use Rattle.lq_elab.proofs.forms.parts_of.Goals as goal

pub returns-in_default : goal.returns-in_default
returns-in_default c = other_wanted c.args.bank.now c.node.result.now c.args.form c.node.ensures.tree (λ x a b e. c.in_default.not-Prod x a b e)
