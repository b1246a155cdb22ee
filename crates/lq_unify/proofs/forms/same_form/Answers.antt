use Rattle.std.proofs.Common.{arith, sym, IfOk}
use Rattle.std.proofs.Common.{subst as along}
use Rattle.lq_terms.specs.Contexts.{context_of}
use Rattle.lq_terms.specs.declared.nodes.Node.{Node}
use Rattle.lq_terms.specs.Terms.{text_of, tree_of}
use Rattle.lq_unify.specs.Forms.{FormIs}
use Rattle.lq_unify.proofs.PartLaws.{tree_is}
use Rattle.lq_unify.proofs.FormSteps.{other_node, leaf_parts, no_shape, not_prod, not_lam, not_let, not_app, product_parts, function_parts, definition_parts, applied_parts}
use Rattle.lq_unify.proofs.forms.same_form.Goals as goal

pub returns-in_ok-form-in-Prod-node-clause-form : goal.returns-in_ok-form-in-Prod-node-clause-form
returns-in_ok-form-in-Prod-node-clause-form c =
    product_parts c.args.bank.now c.binder_form.new.bank (context_of c.args.bank.now c.args.context.now) c.in_ok-form-in-Prod-node.form (tree_of c.args.bank.now c.args.left) (tree_of c.args.bank.now c.args.right) (text_of c.args.bank.now c.in-Prod.binder) (text_of c.args.bank.now c.in-Prod-node.field-0) c.in-Prod.kind c.in-Prod.rest c.in-Prod-node.other_kind c.in-Prod-node.other_rest c.pair-kinds.result c.pair-rests.result c.pair-kinds.ensures c.pair-rests.ensures
    (tree_is c.args.bank.now c.node.result.now (Node.Prod c.in-Prod.binder c.in-Prod.kind c.in-Prod.rest) c.args.left c.node.ensures.tree c.in-Prod.is)
    (tree_is c.args.bank.now c.node-in-Prod.result.now (Node.Prod c.in-Prod-node.field-0 c.in-Prod-node.other_kind c.in-Prod-node.other_rest) c.args.right c.node-in-Prod.ensures.tree c.in-Prod-node.is) c.in_ok-form-in-Prod-node.ensures.form

pub returns-in_default-node-clause-form : goal.returns-in_default-node-clause-form
returns-in_default-node-clause-form c = other_node c.args.bank.now (context_of c.args.bank.now c.args.context.now) c.args.left c.args.right c.node.result.now c.node-in-Prod.result.now c.node.ensures.tree c.node-in-Prod.ensures.tree (Node.Prod c.in-Prod.binder c.in-Prod.kind c.in-Prod.rest) c.in-Prod.is (omega arith) (not_prod c.node-in-Prod.result.now (λ x a b e. c.in_default-node.not-Prod x a b e))

pub returns-in_ok-form-in-Lam-node-clause-form : goal.returns-in_ok-form-in-Lam-node-clause-form
returns-in_ok-form-in-Lam-node-clause-form c =
    function_parts c.args.bank.now c.binder_form-in-Lam-node.new.bank (context_of c.args.bank.now c.args.context.now) c.in_ok-form-in-Lam-node.form (tree_of c.args.bank.now c.args.left) (tree_of c.args.bank.now c.args.right) (text_of c.args.bank.now c.in-Lam.binder) (text_of c.args.bank.now c.in-Lam-node.field-0) c.in-Lam.kind c.in-Lam.rest c.in-Lam-node.other_kind c.in-Lam-node.other_rest c.pair-kinds-in-Lam-node.result c.pair-rests-in-Lam-node.result c.pair-kinds-in-Lam-node.ensures c.pair-rests-in-Lam-node.ensures
    (tree_is c.args.bank.now c.node.result.now (Node.Lam c.in-Lam.binder c.in-Lam.kind c.in-Lam.rest) c.args.left c.node.ensures.tree c.in-Lam.is)
    (tree_is c.args.bank.now c.node-in-Lam.result.now (Node.Lam c.in-Lam-node.field-0 c.in-Lam-node.other_kind c.in-Lam-node.other_rest) c.args.right c.node-in-Lam.ensures.tree c.in-Lam-node.is) c.in_ok-form-in-Lam-node.ensures.form

pub returns-in_default-node-2-clause-form : goal.returns-in_default-node-2-clause-form
returns-in_default-node-2-clause-form c = other_node c.args.bank.now (context_of c.args.bank.now c.args.context.now) c.args.left c.args.right c.node.result.now c.node-in-Lam.result.now c.node.ensures.tree c.node-in-Lam.ensures.tree (Node.Lam c.in-Lam.binder c.in-Lam.kind c.in-Lam.rest) c.in-Lam.is (omega arith) (not_lam c.node-in-Lam.result.now (λ x a b e. c.in_default-node-2.not-Lam x a b e))

pub returns-in_ok-form-in-Let-node-clause-form : goal.returns-in_ok-form-in-Let-node-clause-form
returns-in_ok-form-in-Let-node-clause-form c =
    definition_parts c.args.bank.now c.definition_form.new.bank (context_of c.args.bank.now c.args.context.now) c.in_ok-form-in-Let-node.form (tree_of c.args.bank.now c.args.left) (tree_of c.args.bank.now c.args.right) (text_of c.args.bank.now c.in-Let.binder) (text_of c.args.bank.now c.in-Let-node.field-0) c.in-Let.value c.in-Let.kind c.in-Let.rest c.in-Let-node.other_value c.in-Let-node.other_kind c.in-Let-node.other_rest c.pair-values.result c.pair-kinds-in-Let-node.result c.pair-rests-in-Let-node.result c.pair-values.ensures c.pair-kinds-in-Let-node.ensures c.pair-rests-in-Let-node.ensures
    (tree_is c.args.bank.now c.node.result.now (Node.Let c.in-Let.binder c.in-Let.value c.in-Let.kind c.in-Let.rest) c.args.left c.node.ensures.tree c.in-Let.is)
    (tree_is c.args.bank.now c.node-in-Let.result.now (Node.Let c.in-Let-node.field-0 c.in-Let-node.other_value c.in-Let-node.other_kind c.in-Let-node.other_rest) c.args.right c.node-in-Let.ensures.tree c.in-Let-node.is) c.in_ok-form-in-Let-node.ensures.form

pub returns-in_default-node-3-clause-form : goal.returns-in_default-node-3-clause-form
returns-in_default-node-3-clause-form c = other_node c.args.bank.now (context_of c.args.bank.now c.args.context.now) c.args.left c.args.right c.node.result.now c.node-in-Let.result.now c.node.ensures.tree c.node-in-Let.ensures.tree (Node.Let c.in-Let.binder c.in-Let.value c.in-Let.kind c.in-Let.rest) c.in-Let.is (omega arith) (not_let c.node-in-Let.result.now (λ x v a b e. c.in_default-node-3.not-Let x v a b e))

pub returns-in-App-node-clause-form : goal.returns-in-App-node-clause-form
returns-in-App-node-clause-form c =
    along (λ z. IfOk c.applied_form.result (λ o. FormIs c.args.bank.now (context_of c.args.bank.now c.args.context.now) o z))
    (applied_parts (context_of c.args.bank.now c.args.context.now) (tree_of c.args.bank.now c.args.left) (tree_of c.args.bank.now c.args.right) _ _ _ _ (tree_is c.args.bank.now c.node.result.now (Node.App c.in-App.field-0 c.in-App.field-1) c.args.left c.node.ensures.tree c.in-App.is)
    (tree_is c.args.bank.now c.node-in-App.result.now (Node.App c.in-App-node.field-0 c.in-App-node.field-1) c.args.right c.node-in-App.ensures.tree c.in-App-node.is)) (c.applied_form.ensures.form (context_of c.args.bank.now c.args.context.now))

pub returns-in_default-node-4-clause-form : goal.returns-in_default-node-4-clause-form
returns-in_default-node-4-clause-form c = other_node c.args.bank.now (context_of c.args.bank.now c.args.context.now) c.args.left c.args.right c.node.result.now c.node-in-App.result.now c.node.ensures.tree c.node-in-App.ensures.tree (Node.App c.in-App.field-0 c.in-App.field-1) c.in-App.is (omega arith) (not_app c.node-in-App.result.now (λ a b e. c.in_default-node-4.not-App a b e))

pub returns-in_default-clause-form : goal.returns-in_default-clause-form
returns-in_default-clause-form c =
    along (FormIs c.args.bank.now (context_of c.args.bank.now c.args.context.now) c.leaf_form.result)
    (sym (leaf_parts c.args.bank.now (context_of c.args.bank.now c.args.context.now) c.args.left c.args.right c.node.result.now c.node.ensures.tree (no_shape c.node.result.now (λ x a b e. c.in_default.not-Prod x a b e) (λ x a b e. c.in_default.not-Lam x a b e) (λ x v a b e. c.in_default.not-Let x v a b e) (λ a b e. c.in_default.not-App a b e)))) (c.leaf_form.ensures.form (context_of c.args.bank.now c.args.context.now))
