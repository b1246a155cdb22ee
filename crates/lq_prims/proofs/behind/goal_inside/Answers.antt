use Rattle.std.proofs.Common.{IfOk, [], ◌∷◌, ◌++◌}
use Rattle.std.proofs.Common.{subst as along}
use Rattle.lq_trees.specs.Tree.{Tree}
use Rattle.lq_trees.specs.Tree.Tree.{Rel}
use Rattle.lq_calculus.specs.Declarations.{variables}
use Rattle.lq_terms.specs.Terms.{IsTerm}
use Rattle.lq_terms.specs.Contexts.{context_of}
use Rattle.lq_prims.proofs.EntryLaws.{variable_is}
use Rattle.lq_prims.proofs.behind.goal_inside.Goals as goal

pub returns-clause-term : goal.returns-clause-term
returns-clause-term c =
    along (λ (z : Tree). IfOk c.make.result (λ t. IsTerm c.make.new.self t z))
    (variable_is c.entries_under.new.bank c.args.goal c.in_ok-entries.entries (variables (context_of c.args.bank.now c.args.context.now) ++ Rel 0 ∷ []) c.in_ok-entries.ensures.own) c.make.ensures.made
