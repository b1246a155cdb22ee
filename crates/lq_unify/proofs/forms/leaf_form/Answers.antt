use Rattle.std.proofs.Common.{refl}
use Rattle.lq_terms.specs.Terms.{tree_of}
use Rattle.lq_unify.specs.Forms.{same_leaf}
use Rattle.lq_unify.proofs.FormSteps.{other_leaf, one_leaf}
use Rattle.lq_unify.proofs.forms.leaf_form.Goals as goal

pub returns-then-not-same_leaf : goal.returns-then-not-same_leaf
returns-then-not-same_leaf c = record { form = λ g. other_leaf c.same_leaf.result (same_leaf (tree_of c.args.bank.now c.args.left) (tree_of c.args.bank.now c.args.right)) c.same_leaf.ensures c.if-not-same_leaf.true }

pub returns : goal.returns
returns c = record { form = λ g. one_leaf c.args.bank.now g _ c.same_leaf.result (same_leaf (tree_of c.args.bank.now c.args.left) (tree_of c.args.bank.now c.args.right)) c.same_leaf.ensures c.if-not-same_leaf.false c.new.ensures.items refl }
