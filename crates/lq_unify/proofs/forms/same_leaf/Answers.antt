use Rattle.std.proofs.Common.{◌∙◌, sym, refl}
use Rattle.lq_terms.specs.declared.nodes.Node.{Node}
use Rattle.lq_unify.proofs.LeafLaws.{at_leaves, at_other, at_none, no_leaf, not_var, not_sort, not_const, not_ind, not_ctor, not_elim, and_true, and_false, var_leaf, sort_leaf, const_leaf, ind_leaf, ctor_leaf, elim_leaf}
use Rattle.lq_unify.proofs.forms.same_leaf.Goals as goal

pub returns-in-Var-node : goal.returns-in-Var-node
returns-in-Var-node c = at_leaves c.args.bank.now c.args.left c.args.right c.node.result.now c.node-in-Var.result.now c.node.ensures.tree c.node-in-Var.ensures.tree (Node.Var c.in-Var.name) (Node.Var c.in-Var-node.other) c.same_name.result c.in-Var.is c.in-Var-node.is (var_leaf c.args.bank.now c.in-Var.name c.in-Var-node.other c.same_name.result c.same_name.ensures)

pub returns-in-Sort-node : goal.returns-in-Sort-node
returns-in-Sort-node c = at_leaves c.args.bank.now c.args.left c.args.right c.node.result.now c.node-in-Sort.result.now c.node.ensures.tree c.node-in-Sort.ensures.tree (Node.Sort c.in-Sort.sort) (Node.Sort c.in-Sort-node.other) c.same_sorts.result c.in-Sort.is c.in-Sort-node.is (sort_leaf c.args.bank.now c.in-Sort.sort c.in-Sort-node.other c.same_sorts.result c.same_sorts.ensures)

pub returns-in-Const-node : goal.returns-in-Const-node
returns-in-Const-node c = at_leaves c.args.bank.now c.args.left c.args.right c.node.result.now c.node-in-Const.result.now c.node.ensures.tree c.node-in-Const.ensures.tree (Node.Const c.in-Const.name) (Node.Const c.in-Const-node.other) c.same_name-in-Const-node.result c.in-Const.is c.in-Const-node.is (const_leaf c.args.bank.now c.in-Const.name c.in-Const-node.other c.same_name-in-Const-node.result c.same_name-in-Const-node.ensures)

pub returns-in-Ind-node : goal.returns-in-Ind-node
returns-in-Ind-node c = at_leaves c.args.bank.now c.args.left c.args.right c.node.result.now c.node-in-Ind.result.now c.node.ensures.tree c.node-in-Ind.ensures.tree (Node.Ind c.in-Ind.name) (Node.Ind c.in-Ind-node.other) c.same_name-in-Ind-node.result c.in-Ind.is c.in-Ind-node.is (ind_leaf c.args.bank.now c.in-Ind.name c.in-Ind-node.other c.same_name-in-Ind-node.result c.same_name-in-Ind-node.ensures)

pub returns-then-same_name : goal.returns-then-same_name
returns-then-same_name c =
    at_leaves c.args.bank.now c.args.left c.args.right c.node.result.now c.node-in-Ctor.result.now c.node.ensures.tree c.node-in-Ctor.ensures.tree (Node.Ctor c.in-Ctor.name c.in-Ctor.index) (Node.Ctor c.in-Ctor-node.other c.in-Ctor-node.number) _ c.in-Ctor.is c.in-Ctor-node.is
    (ctor_leaf c.args.bank.now c.in-Ctor.name c.in-Ctor-node.other c.in-Ctor.index c.in-Ctor-node.number _ (and_true _ _ _ (sym c.same_name-in-Ctor-node.ensures ∙ c.if-same_name.true) refl))

pub returns-else-same_name : goal.returns-else-same_name
returns-else-same_name c =
    at_leaves c.args.bank.now c.args.left c.args.right c.node.result.now c.node-in-Ctor.result.now c.node.ensures.tree c.node-in-Ctor.ensures.tree (Node.Ctor c.in-Ctor.name c.in-Ctor.index) (Node.Ctor c.in-Ctor-node.other c.in-Ctor-node.number) c.same_name-in-Ctor-node.result c.in-Ctor.is c.in-Ctor-node.is
    (ctor_leaf c.args.bank.now c.in-Ctor.name c.in-Ctor-node.other c.in-Ctor.index c.in-Ctor-node.number c.same_name-in-Ctor-node.result (and_false _ _ _ c.same_name-in-Ctor-node.ensures (sym c.same_name-in-Ctor-node.ensures ∙ c.if-same_name.false)))

pub returns-then-same_name-2 : goal.returns-then-same_name-2
returns-then-same_name-2 c =
    at_leaves c.args.bank.now c.args.left c.args.right c.node.result.now c.node-in-Elim.result.now c.node.ensures.tree c.node-in-Elim.ensures.tree (Node.Elim c.in-Elim.name c.in-Elim.sort) (Node.Elim c.in-Elim-node.other c.in-Elim-node.wanted) c.same_sorts-then-same_name-2.result c.in-Elim.is c.in-Elim-node.is
    (elim_leaf c.args.bank.now c.in-Elim.name c.in-Elim-node.other c.in-Elim.sort c.in-Elim-node.wanted c.same_sorts-then-same_name-2.result
    (and_true _ _ _ (sym c.same_name-in-Elim-node.ensures ∙ c.if-same_name-2.true) c.same_sorts-then-same_name-2.ensures))

pub returns-else-same_name-2 : goal.returns-else-same_name-2
returns-else-same_name-2 c =
    at_leaves c.args.bank.now c.args.left c.args.right c.node.result.now c.node-in-Elim.result.now c.node.ensures.tree c.node-in-Elim.ensures.tree (Node.Elim c.in-Elim.name c.in-Elim.sort) (Node.Elim c.in-Elim-node.other c.in-Elim-node.wanted) c.same_name-in-Elim-node.result c.in-Elim.is c.in-Elim-node.is
    (elim_leaf c.args.bank.now c.in-Elim.name c.in-Elim-node.other c.in-Elim.sort c.in-Elim-node.wanted c.same_name-in-Elim-node.result
    (and_false _ _ _ c.same_name-in-Elim-node.ensures (sym c.same_name-in-Elim-node.ensures ∙ c.if-same_name-2.false)))

pub returns-in_default-node : goal.returns-in_default-node
returns-in_default-node c = at_other c.args.bank.now c.args.left c.args.right c.node.result.now c.node-in-Var.result.now c.node.ensures.tree c.node-in-Var.ensures.tree (Node.Var c.in-Var.name) c.in-Var.is (not_var c.node-in-Var.result.now (λ x e. c.in_default-node.not-Var x e))

pub returns-in_default-node-2 : goal.returns-in_default-node-2
returns-in_default-node-2 c = at_other c.args.bank.now c.args.left c.args.right c.node.result.now c.node-in-Sort.result.now c.node.ensures.tree c.node-in-Sort.ensures.tree (Node.Sort c.in-Sort.sort) c.in-Sort.is (not_sort c.node-in-Sort.result.now (λ x e. c.in_default-node-2.not-Sort x e))

pub returns-in_default-node-3 : goal.returns-in_default-node-3
returns-in_default-node-3 c = at_other c.args.bank.now c.args.left c.args.right c.node.result.now c.node-in-Const.result.now c.node.ensures.tree c.node-in-Const.ensures.tree (Node.Const c.in-Const.name) c.in-Const.is (not_const c.node-in-Const.result.now (λ x e. c.in_default-node-3.not-Const x e))

pub returns-in_default-node-4 : goal.returns-in_default-node-4
returns-in_default-node-4 c = at_other c.args.bank.now c.args.left c.args.right c.node.result.now c.node-in-Ind.result.now c.node.ensures.tree c.node-in-Ind.ensures.tree (Node.Ind c.in-Ind.name) c.in-Ind.is (not_ind c.node-in-Ind.result.now (λ x e. c.in_default-node-4.not-Ind x e))

pub returns-in_default-node-5 : goal.returns-in_default-node-5
returns-in_default-node-5 c = at_other c.args.bank.now c.args.left c.args.right c.node.result.now c.node-in-Ctor.result.now c.node.ensures.tree c.node-in-Ctor.ensures.tree (Node.Ctor c.in-Ctor.name c.in-Ctor.index) c.in-Ctor.is (not_ctor c.node-in-Ctor.result.now (λ x k e. c.in_default-node-5.not-Ctor x k e))

pub returns-in_default-node-6 : goal.returns-in_default-node-6
returns-in_default-node-6 c = at_other c.args.bank.now c.args.left c.args.right c.node.result.now c.node-in-Elim.result.now c.node.ensures.tree c.node-in-Elim.ensures.tree (Node.Elim c.in-Elim.name c.in-Elim.sort) c.in-Elim.is (not_elim c.node-in-Elim.result.now (λ x k e. c.in_default-node-6.not-Elim x k e))

pub returns-in_default : goal.returns-in_default
returns-in_default c =
    at_none c.args.bank.now c.args.left c.args.right c.node.result.now c.node.ensures.tree
    (no_leaf c.node.result.now (λ x e. c.in_default.not-Var x e) (λ x e. c.in_default.not-Sort x e) (λ x e. c.in_default.not-Const x e) (λ x e. c.in_default.not-Ind x e) (λ x k e. c.in_default.not-Ctor x k e) (λ x k e. c.in_default.not-Elim x k e))
