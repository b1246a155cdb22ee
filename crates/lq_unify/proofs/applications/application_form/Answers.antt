use Rattle.std.proofs.Common.{◌≡◌, ◌∙◌, ◌∷◌, ap, ap₂, map, IfOk}
use Rattle.std.proofs.Common.{subst as along}
use Rattle.std.specs.Prelude.{option_map}
use Rattle.lq_terms.specs.Terms.{tree_of}
use Rattle.lq_solving.specs.Unification.{is_variable, parts_of}
use Rattle.lq_unify.specs.Pairs.{pairs_in}
use Rattle.lq_unify.specs.Applications.{application_of}
use Rattle.lq_unify.proofs.ApplicationLaws.{no_application, is_application, first_true, second_true}
use Rattle.lq_unify.proofs.applications.application_form.Goals as goal

pub returns-then-is_variable-clause-are : goal.returns-then-is_variable-clause-are
returns-then-is_variable-clause-are c = λ g.
    no_application g (application_of c.args.bank.now c.args.left.now) (application_of c.args.bank.now c.args.right.now)
    (first_true c.is_variable.result (is_variable (tree_of c.args.bank.now c.args.left.now.head)) (is_variable (tree_of c.args.bank.now c.args.right.now.head)) c.is_variable.ensures c.if-is_variable.true)

pub returns-then-is_variable-2-clause-are : goal.returns-then-is_variable-2-clause-are
returns-then-is_variable-2-clause-are c = λ g.
    no_application g (application_of c.args.bank.now c.args.left.now) (application_of c.args.bank.now c.args.right.now)
    (second_true c.is_variable-2.result (is_variable (tree_of c.args.bank.now c.args.left.now.head)) (is_variable (tree_of c.args.bank.now c.args.right.now.head)) c.is_variable-2.ensures c.if-is_variable-2.true)

pub returns-clause-are : goal.returns-clause-are
returns-clause-are c = λ g.
    along (λ z. IfOk c.pairs_of.result (λ o. option_map (λ ps. pairs_in c.args.bank.now g ps.items) o ≡ z))
    (ap₂ (λ a b. parts_of g (map (tree_of c.args.bank.now) a) (map (tree_of c.args.bank.now) b)) (c.as_slice-3.ensures.value ∙ c.in_ok-lefts.ensures ∙ ap (λ z. c.args.left.now.head ∷ z) c.as_slice.ensures.value)
    (c.as_slice-4.ensures.value ∙ c.in_ok-rights.ensures ∙ ap (λ z. c.args.right.now.head ∷ z) c.as_slice-2.ensures.value)
    ∙ is_application g (application_of c.args.bank.now c.args.left.now) (application_of c.args.bank.now c.args.right.now) c.is_variable.result c.is_variable-2.result c.is_variable.ensures c.if-is_variable.false c.is_variable-2.ensures c.if-is_variable-2.false)
    (c.pairs_of.ensures.are g)
