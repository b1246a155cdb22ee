use Rattle.std.proofs.Common.{◌∙◌, sym}
use Rattle.lq_terms.specs.declared.nodes.Node.{Node}
use Rattle.lq_terms.specs.Terms.{text_of, tree_of}
use Rattle.lq_unify.specs.Solutions.{place_in}
use Rattle.lq_unify.proofs.PartLaws.{tree_is}
use Rattle.lq_unify.proofs.SolutionLaws.{at_variable, at_barred}
use Rattle.lq_unify.proofs.replacing.at_leaf.Goals as goal

pub returns-in-Var-clause-is : goal.returns-in-Var-clause-is
returns-in-Var-clause-is c =
    c.placed.ensures.is
    ∙ sym (at_variable c.args.how.barred (place_in c.args.bank.now c.args.how.stays c.args.places.now.entries) (tree_of c.args.bank.now c.args.term) (text_of c.args.bank.now c.in-Var.name)
    (tree_is c.args.bank.now c.node.result.now (Node.Var c.in-Var.name) c.args.term c.node.ensures.tree c.in-Var.is))

pub returns-then-is_barred-clause-is : goal.returns-then-is_barred-clause-is
returns-then-is_barred-clause-is c =
    at_barred c.args.how.barred (place_in c.args.bank.now c.args.how.stays c.args.places.now.entries) (tree_of c.args.bank.now c.args.term) c.in-Evar.variable _
    (tree_is c.args.bank.now c.node.result.now (Node.Evar c.in-Evar.variable c.in-Evar.field-1) c.args.term c.node.ensures.tree c.in-Evar.is) (sym c.is_barred.ensures ∙ c.if-is_barred.true)
