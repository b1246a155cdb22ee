use Rattle.lq_terms.specs.Terms.{tree_of}
use Rattle.lq_prims.proofs.InductiveLaws.{arguments_shallow}
use Rattle.lq_prims.proofs.inductives.inductive_at.Goals as goal

pub inductive_of-requires-clause-shallow : goal.inductive_of-requires-clause-shallow
inductive_of-requires-clause-shallow c =
    arguments_shallow c.args.bank.now (tree_of c.args.bank.now c.args.form) c.in_ok-application.application.head c.in_ok-application.application.arguments.items c.requires.shallow c.in_ok-application.ensures.is
