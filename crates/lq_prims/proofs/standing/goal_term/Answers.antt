use Rattle.std.proofs.Common.{IfOk}
use Rattle.std.proofs.Common.{subst as along}
use Rattle.lq_trees.specs.Tree.{Tree}
use Rattle.lq_calculus.specs.Declarations.{variables}
use Rattle.lq_solving.specs.Stores.{own_instance}
use Rattle.lq_terms.specs.Terms.{IsTerm}
use Rattle.lq_terms.specs.Contexts.{context_of}
use Rattle.lq_prims.proofs.EntryLaws.{variable_is}
use Rattle.lq_prims.proofs.standing.goal_term.Goals as goal

pub returns-clause-term : goal.returns-clause-term
unfolding own_instance
returns-clause-term c =
    along (λ (z : Tree). IfOk c.make.result (λ t. IsTerm c.make.new.self t z))
    (variable_is c.own_entries.new.bank c.args.goal c.in_ok-entries.entries (variables (context_of c.args.bank.now c.args.context.now)) c.in_ok-entries.ensures.own) c.make.ensures.made
