use Rattle.std.proofs.Common.{◌∙◌, ◌∷◌, [], subst, Ok, Err}
use Rattle.lq_terms.specs.Terms.{tree_of}
use Rattle.lq_terms.specs.Contexts.{context_of}
use Rattle.lq_calculus.specs.Checking.{known}
use Rattle.lq_kernel.specs.Steps.{Knows, KnowsAll}
use Rattle.lq_kernel.proofs.Goes.{err_out}
use Rattle.lq_kernel.proofs.LookLaws.{names_in}
use Rattle.lq_kernel.proofs.CallLaws.{known_longer, knows_next, knows_one, knows_all_by}
use Rattle.lq_kernel.proofs.constants.known_alone.Goals as goal

pub returns-in_err-known : goal.returns-in_err-known
returns-in_err-known c =
    err_out (λ z. KnowsAll c.args.bank.now z (known [] (tree_of c.args.bank.now c.args.kind ∷ tree_of c.args.bank.now c.args.body ∷ []))) c.from_residual.result c.in_err-known.field-0.0 c.from_residual.ensures.1
    (knows_all_by c.args.bank.now c.in_err-known.field-0.0 (known [] (tree_of c.args.bank.now c.args.kind ∷ [])) (known [] (tree_of c.args.bank.now c.args.kind ∷ tree_of c.args.bank.now c.args.body ∷ [])) (known_longer [] (tree_of c.args.bank.now c.args.kind) (tree_of c.args.bank.now c.args.body ∷ []))
    (knows_one c.args.bank.now (Err c.in_err-known.field-0.0) [] (tree_of c.args.bank.now c.args.kind) (subst (λ hs. Knows c.args.bank.now (Err c.in_err-known.field-0.0) (names_in (context_of c.args.bank.now hs)) (tree_of c.args.bank.now c.args.kind)) (c.hypotheses.ensures ∙ c.new-empty.ensures) c.in_err-known.ensures)))

pub returns : goal.returns
returns c =
    knows_next c.args.bank.now c.known-2.result [] (tree_of c.args.bank.now c.args.kind) (tree_of c.args.bank.now c.args.body ∷ [])
    (subst (λ hs. Knows c.args.bank.now (Ok c.in_ok-known.field-0) (names_in (context_of c.args.bank.now hs)) (tree_of c.args.bank.now c.args.kind)) (c.hypotheses.ensures ∙ c.new-empty.ensures) c.in_ok-known.ensures)
    (knows_one c.args.bank.now c.known-2.result [] (tree_of c.args.bank.now c.args.body) (subst (λ hs. Knows c.args.bank.now c.known-2.result (names_in (context_of c.args.bank.now hs)) (tree_of c.args.bank.now c.args.body)) (c.hypotheses-2.ensures ∙ c.new-empty.ensures) c.known-2.ensures))
