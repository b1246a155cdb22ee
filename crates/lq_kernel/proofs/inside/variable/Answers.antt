use Rattle.lq_kernel.proofs.Grown.{variable_is, named_at}
use Rattle.lq_kernel.proofs.inside.variable.Goals as goal

pub returns-clause-variable : goal.returns-clause-variable
returns-clause-variable c =
    variable_is c.args.bank.now c.name_under.new.bank c.in_ok-name.ensures.grows c.args.context.now c.args.binder c.in_ok-name.name c.args.body c.args.kind c.requires.body c.requires.kind
    (named_at c.args.bank.now c.name_under.new.bank c.args.context.now _ c.args.binder c.in_ok-name.name c.hypotheses.ensures c.in_ok-name.ensures.name)
