use Rattle.std.proofs.Common.{refl}
use Rattle.lq_elab.proofs.FormLaws.{is_sort, other_sort}
use Rattle.lq_elab.proofs.forms.as_sort.Goals as goal

pub returns-in-Sort : goal.returns-in-Sort
returns-in-Sort c = is_sort c.args.bank.now c.node.result.now c.in-Sort.sort c.args.form c.node.ensures.tree c.in-Sort.is

pub returns-in_default : goal.returns-in_default
returns-in_default c = (refl, other_sort c.args.bank.now c.node.result.now c.args.form c.node.ensures.tree (λ u e. c.in_default.not-Sort u e))
