use Rattle.std.proofs.Common.{◌∙◌, sym, ap₂, map}
use Rattle.std.proofs.Common.{subst as along}
use Rattle.std.specs.List.{AllByRecursion}
use Rattle.lq_terms.specs.declared.nodes.Node.{Node}
use Rattle.lq_terms.specs.Terms.{HasTerm, tree_of}
use Rattle.lq_solving.specs.Unification.{parts_of}
use Rattle.lq_unify.proofs.PartLaws.{tree_is, parts_have}
use Rattle.lq_unify.proofs.ApplicationLaws.{no_variable}
use Rattle.lq_unify.proofs.OneLaws.{one_left, one_right, not_one, is_one}
use Rattle.lq_unify.proofs.SplitLaws.{pairs_are}
use Rattle.lq_unify.proofs.forms.variable_form.Goals as goal

pub returns-in_default : goal.returns-in_default
returns-in_default c = record {
  form = λ g. one_left g (tree_of c.args.bank.now c.args.left) (tree_of c.args.bank.now c.args.right) (no_variable c.args.bank.now c.node.result.now c.args.left c.node.ensures.tree (λ n ts e. c.in_default.not-Evar n ts e));
}

pub returns-in_default-node : goal.returns-in_default-node
returns-in_default-node c = record {
  form = λ g. one_right g (tree_of c.args.bank.now c.args.left) (tree_of c.args.bank.now c.args.right) (no_variable c.args.bank.now c.node-2.result.now c.args.right c.node-2.ensures.tree (λ n ts e. c.in_default-node.not-Evar n ts e));
}

pub returns-then-variable-other : goal.returns-then-variable-other
returns-then-variable-other c = record {
  form = λ g. not_one c.args.bank.now g (tree_of c.args.bank.now c.args.left) (tree_of c.args.bank.now c.args.right) c.in-Evar.variable c.in-Evar-node.other c.in-Evar.entries c.in-Evar-node.others
      (tree_is c.args.bank.now c.node.result.now (Node.Evar c.in-Evar.variable c.in-Evar.entries) c.args.left c.node.ensures.tree c.in-Evar.is)
      (tree_is c.args.bank.now c.node-2.result.now (Node.Evar c.in-Evar-node.other c.in-Evar-node.others) c.args.right c.node-2.ensures.tree c.in-Evar-node.is) c.if-variable-other.true;
}

pub pairs_of-requires-clause-left : goal.pairs_of-requires-clause-left
pairs_of-requires-clause-left c = along (AllByRecursion (HasTerm c.args.bank.now)) (sym c.terms.ensures) (parts_have c.args.bank.now c.args.left c.in-Evar.entries (rw c.in-Evar.is at c.node.ensures.parts))

pub pairs_of-requires-clause-right : goal.pairs_of-requires-clause-right
pairs_of-requires-clause-right c = along (AllByRecursion (HasTerm c.args.bank.now)) (sym c.terms-2.ensures) (parts_have c.args.bank.now c.args.right c.in-Evar-node.others (rw c.in-Evar-node.is at c.node-2.ensures.parts))

pub returns : goal.returns
returns c = record {
  form = λ g. c.alone.ensures.is c.args.bank.now g _
      (pairs_are c.args.bank.now g (λ ps. ps.items) c.in_ok-pairs.pairs _ _ c.in_ok-pairs.ensures.has (c.in_ok-pairs.ensures.are g)
      (ap₂ (λ a b. parts_of g (map (tree_of c.args.bank.now) a) (map (tree_of c.args.bank.now) b)) c.terms.ensures c.terms-2.ensures
      ∙ is_one c.args.bank.now g (tree_of c.args.bank.now c.args.left) (tree_of c.args.bank.now c.args.right) c.in-Evar.variable c.in-Evar-node.other c.in-Evar.entries c.in-Evar-node.others
      (tree_is c.args.bank.now c.node.result.now (Node.Evar c.in-Evar.variable c.in-Evar.entries) c.args.left c.node.ensures.tree c.in-Evar.is)
      (tree_is c.args.bank.now c.node-2.result.now (Node.Evar c.in-Evar-node.other c.in-Evar-node.others) c.args.right c.node-2.ensures.tree c.in-Evar-node.is) c.if-variable-other.false));
}
