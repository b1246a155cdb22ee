use Rattle.lq_kernel.proofs.ClosedLaws.{no_type}
use Rattle.lq_typing.proofs.unknowns.NoVariablesVariables.kind.Goals as goal

pub returns-clause-answer : goal.returns-clause-answer
returns-clause-answer c k ts b e = no_type c.args.bank.now _ c.args.variable c.in-Evar.index c.in-Evar.field-1 k ts b c.node.ensures.tree c.in-Evar.is e
