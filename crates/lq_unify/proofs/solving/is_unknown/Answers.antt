use Rattle.lq_terms.specs.declared.nodes.Node.{Node}
use Rattle.lq_terms.specs.Terms.{tree_of, trees_by}
use Rattle.lq_unify.proofs.PartLaws.{tree_is}
use Rattle.lq_unify.proofs.BothLaws.{node_variable, tree_variable}
use Rattle.lq_unify.proofs.solving.is_unknown.Goals as goal

pub returns-in-Evar : goal.returns-in-Evar
returns-in-Evar c = tree_variable (tree_of c.args.bank.now c.args.term) c.in-Evar.field-0 (trees_by (tree_of c.args.bank.now) c.in-Evar.field-1) (tree_is c.args.bank.now c.node.result.now (Node.Evar c.in-Evar.field-0 c.in-Evar.field-1) c.args.term c.node.ensures.tree c.in-Evar.is)

pub returns-in_default : goal.returns-in_default
returns-in_default c = node_variable c.args.bank.now c.node.result.now c.args.term c.node.ensures.tree (λ n ts e. c.in_default.not-Evar n ts e)
