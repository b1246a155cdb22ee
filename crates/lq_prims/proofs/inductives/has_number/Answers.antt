use Rattle.std.proofs.Common.{◌∙◌}
use Rattle.lq_prims.specs.Inductives.{inductive_by}
use Rattle.lq_prims.proofs.ConstructorLaws.{number_right, number_wrong, count_is}
use Rattle.lq_prims.proofs.inductives.has_number.Goals as goal

pub returns-then-count-number : goal.returns-then-count-number
returns-then-count-number c =
    number_right c.args.number (inductive_by c.args.bank.now c.args.inductive.now) (count_is c.args.bank.now c.args.inductive.now c.count_of-count.result c.count_of-count.ensures ∙ c.if-count-number.true)

pub returns-else-count-number : goal.returns-else-count-number
returns-else-count-number c =
    number_wrong c.args.bank.now c.args.number c.count_of-count.result (inductive_by c.args.bank.now c.args.inductive.now) (count_is c.args.bank.now c.args.inductive.now c.count_of-count.result c.count_of-count.ensures) c.if-count-number.false
