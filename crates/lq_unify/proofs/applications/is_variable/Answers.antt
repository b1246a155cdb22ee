use Rattle.lq_terms.specs.declared.nodes.Node.{Node}
use Rattle.lq_terms.specs.Terms.{tree_of}
use Rattle.lq_unify.proofs.PartLaws.{tree_is}
use Rattle.lq_unify.proofs.ApplicationLaws.{variable_is, no_variable}
use Rattle.lq_unify.proofs.applications.is_variable.Goals as goal

pub returns-in-Evar : goal.returns-in-Evar
returns-in-Evar c = variable_is (tree_of c.args.bank.now c.args.term) c.in-Evar.field-0 _ (tree_is c.args.bank.now c.node.result.now (Node.Evar c.in-Evar.field-0 c.in-Evar.field-1) c.args.term c.node.ensures.tree c.in-Evar.is)

pub returns-in_default : goal.returns-in_default
returns-in_default c = no_variable c.args.bank.now c.node.result.now c.args.term c.node.ensures.tree (λ n ts e. c.in_default.not-Evar n ts e)
