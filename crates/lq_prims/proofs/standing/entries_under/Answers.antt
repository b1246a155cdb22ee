use Rattle.lq_trees.specs.Tree.Tree.{Rel}
use Rattle.lq_calculus.specs.Declarations.{variables}
use Rattle.lq_terms.specs.Contexts.{context_of}
use Rattle.lq_goals.proofs.RootLaws.{own_has}
use Rattle.lq_prims.proofs.EntryLaws.{entries_more}
use Rattle.lq_prims.proofs.standing.entries_under.Goals as goal

pub returns-clause-has : goal.returns-clause-has
returns-clause-has c =
    own_has c.own_entries.new.bank c.make.new.self c.make.ensures.grows c.in_ok-entries.entries c.push.new.self c.in_ok-bound.bound c.in_ok-entries.ensures.has c.in_ok-bound.ensures.made.has c.in_ok-push.ensures.ok

pub returns-clause-own : goal.returns-clause-own
returns-clause-own c =
    entries_more c.own_entries.new.bank c.make.new.self c.make.ensures.grows c.in_ok-entries.entries c.push.new.self c.in_ok-bound.bound (variables (context_of c.args.bank.now c.args.context.now)) (Rel 0)
    c.in_ok-entries.ensures.has c.in_ok-entries.ensures.own c.in_ok-bound.ensures.made.is c.in_ok-push.ensures.ok
