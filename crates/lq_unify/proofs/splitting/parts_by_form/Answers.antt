use Rattle.std.proofs.Common.{IfOk}
use Rattle.std.proofs.Common.{subst as along}
use Rattle.lq_terms.specs.Contexts.{context_of}
use Rattle.lq_terms.specs.Terms.{tree_of}
use Rattle.lq_unify.specs.Forms.{FormIs}
use Rattle.lq_unify.proofs.SplitLaws.{form_first, split_next}
use Rattle.lq_unify.proofs.splitting.parts_by_form.Goals as goal

pub returns-in-Some-clause-form : goal.returns-in-Some-clause-form
returns-in-Some-clause-form c =
    form_first c.same_form.new.bank (context_of c.args.bank.now c.args.context.now) c.in-Some.form (tree_of c.args.bank.now c.args.left) (tree_of c.args.bank.now c.args.right) (rw c.in-Some.is at c.in_ok-form.ensures.form)

pub returns-clause-form : goal.returns-clause-form
returns-clause-form c =
    along (λ z. IfOk c.split_form.result (λ o. FormIs c.split_form.new.bank (context_of c.args.bank.now c.args.context.now) o z))
    (split_next (context_of c.args.bank.now c.args.context.now) (tree_of c.args.bank.now c.args.left) (tree_of c.args.bank.now c.args.right) (tree_of c.same_form.new.bank c.args.left) (tree_of c.same_form.new.bank c.args.right)
    (c.in_ok-form.ensures.grows.tree c.args.left c.requires.left) (c.in_ok-form.ensures.grows.tree c.args.right c.requires.right) (rw c.in_default.is at c.in_ok-form.ensures.form)) (c.split_form.ensures.form (context_of c.args.bank.now c.args.context.now))
