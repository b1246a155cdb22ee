use Rattle.std.proofs.Common.{[], IfOk}
use Rattle.std.proofs.Common.{subst as along}
use Rattle.lq_calculus.specs.Contraction.{spine}
use Rattle.lq_terms.specs.Terms.{tree_of}
use Rattle.lq_unify.specs.Applications.{application_of}
use Rattle.lq_unify.specs.Forms.{FormIs}
use Rattle.lq_unify.proofs.SplitLaws.{left_first, right_next, application_grown, application_there}
use Rattle.lq_unify.proofs.splitting.split_form.Goals as goal

pub returns-in-Some-clause-form : goal.returns-in-Some-clause-form
returns-in-Some-clause-form c = λ g.
    left_first c.variable_left.new.bank g c.in-Some.form (spine (tree_of c.args.bank.now c.args.left) []) (spine (tree_of c.args.bank.now c.args.right) []) (application_of c.args.bank.now c.in_ok-first.first) (application_of c.args.bank.now c.in_ok-second.second)
    c.in_ok-first.ensures.is c.in_ok-second.ensures.is (rw c.in-Some.is at (c.in_ok-form.ensures.form g))

pub variable_right-requires-clause-left : goal.variable_right-requires-clause-left
variable_right-requires-clause-left c = application_there c.args.bank.now c.variable_left.new.bank c.in_ok-form.ensures.grows c.in_ok-first.first (c.in_ok-first.ensures.head, c.in_ok-first.ensures.arguments)

pub variable_right-requires-clause-right : goal.variable_right-requires-clause-right
variable_right-requires-clause-right c = application_there c.args.bank.now c.variable_left.new.bank c.in_ok-form.ensures.grows c.in_ok-second.second (c.in_ok-second.ensures.head, c.in_ok-second.ensures.arguments)

pub returns-clause-form : goal.returns-clause-form
returns-clause-form c = λ g.
    along (λ z. IfOk c.variable_right.result (λ o. FormIs c.variable_right.new.bank g o z))
    (right_next g (spine (tree_of c.args.bank.now c.args.left) []) (spine (tree_of c.args.bank.now c.args.right) []) (application_of c.args.bank.now c.in_ok-first.first) (application_of c.args.bank.now c.in_ok-second.second)
    (application_of c.variable_left.new.bank c.in_ok-first.first) (application_of c.variable_left.new.bank c.in_ok-second.second) c.in_ok-first.ensures.is c.in_ok-second.ensures.is
    (application_grown c.args.bank.now c.variable_left.new.bank c.in_ok-form.ensures.grows c.in_ok-first.first (c.in_ok-first.ensures.head, c.in_ok-first.ensures.arguments))
    (application_grown c.args.bank.now c.variable_left.new.bank c.in_ok-form.ensures.grows c.in_ok-second.second (c.in_ok-second.ensures.head, c.in_ok-second.ensures.arguments)) (rw c.in_default.is at (c.in_ok-form.ensures.form g)))
    (c.variable_right.ensures.form g)
