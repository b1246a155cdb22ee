use Rattle.std.proofs.Common.{ap, Some}
use Rattle.lq_terms.specs.Terms.{text_of}
use Rattle.lq_env.proofs.FaultLaws.{misuse_product, misuse_other}
use Rattle.lq_env.proofs.positivity.misuse.Goals as goal

pub returns-in-Prod : goal.returns-in-Prod
returns-in-Prod c = (
  c.requires.constructor,
  ap (λ z. Some z) (misuse_product c.args.bank.now (text_of c.args.bank.now c.args.constructor) c.args.number c.node.result.now c.args.kind c.in-Prod.field-0 c.in-Prod.field-1 c.in-Prod.field-2 c.node.ensures.tree c.in-Prod.is),
)

pub returns-in_default : goal.returns-in_default
returns-in_default c =
    (c.requires.constructor, ap (λ z. Some z) (misuse_other c.args.bank.now (text_of c.args.bank.now c.args.constructor) c.args.number c.node.result.now c.args.kind c.node.ensures.tree c.in_default.not-Prod))
