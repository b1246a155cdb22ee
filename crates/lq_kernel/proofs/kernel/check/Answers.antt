use Rattle.std.proofs.Common.{subst, ap, refl, Ok, Err}
use Rattle.lq_terms.specs.Terms.{tree_of}
use Rattle.lq_terms.specs.Contexts.{context_of}
use Rattle.lq_env.specs.Environments.{env_of}
use Rattle.lq_calculus.specs.Checking.{check_call}
use Rattle.lq_kernel.specs.Answers.{Checks}
use Rattle.lq_kernel.proofs.Goes.{err_out}
use Rattle.lq_kernel.specs.Steps.{Knows}
use Rattle.lq_kernel.proofs.LookLaws.{names_in}
use Rattle.lq_kernel.proofs.CallLaws.{checks_first, checks_second, checks_type, checks_derived}
use Rattle.lq_kernel.proofs.Grown.{nodes_back}
use Rattle.lq_kernel.proofs.kernel.check.Goals as goal

pub returns-in_err-known-clause-answer : goal.returns-in_err-known-clause-answer
returns-in_err-known-clause-answer g c =
    checks_first (env_of c.args.work.now.bank.now c.args.env.now) (context_of c.args.work.now.bank.now c.args.context.now) (tree_of c.args.work.now.bank.now c.args.term) (tree_of c.args.work.now.bank.now c.args.wanted) c.args.work.now.bank.now c.from_residual.result c.in_err-known.field-0.0 c.args.work.now.ticks.now.left c.from_residual.ensures.1 (subst (λ hs. Knows c.args.work.now.bank.now (Err c.in_err-known.field-0.0) (names_in (context_of c.args.work.now.bank.now hs)) (tree_of c.args.work.now.bank.now c.args.term)) c.hypotheses.ensures c.in_err-known.ensures)

pub returns-in_err-known-2-clause-answer : goal.returns-in_err-known-2-clause-answer
returns-in_err-known-2-clause-answer g c =
    checks_second (env_of c.args.work.now.bank.now c.args.env.now) (context_of c.args.work.now.bank.now c.args.context.now) (tree_of c.args.work.now.bank.now c.args.term) (tree_of c.args.work.now.bank.now c.args.wanted) c.args.work.now.bank.now c.from_residual-in_err-known-2.result c.in_err-known-2.field-0.0 c.args.work.now.ticks.now.left c.from_residual-in_err-known-2.ensures.1 (subst (λ hs. Knows c.args.work.now.bank.now (Ok tt) (names_in (context_of c.args.work.now.bank.now hs)) (tree_of c.args.work.now.bank.now c.args.term)) c.hypotheses.ensures c.in_ok-known.ensures) (subst (λ hs. Knows c.args.work.now.bank.now (Err c.in_err-known-2.field-0.0) (names_in (context_of c.args.work.now.bank.now hs)) (tree_of c.args.work.now.bank.now c.args.wanted)) c.hypotheses-2.ensures c.in_err-known-2.ensures)

pub returns-in_err-check_in-clause-answer : goal.returns-in_err-check_in-clause-answer
returns-in_err-check_in-clause-answer g c =
    err_out (λ z. Checks c.check_in.new.work.bank.now z (λ n. check_call (env_of c.args.work.now.bank.now c.args.env.now) n (context_of c.args.work.now.bank.now c.args.context.now) (tree_of c.args.work.now.bank.now c.args.term) (tree_of c.args.work.now.bank.now c.args.wanted)) c.args.work.now.ticks.now.left c.check_in.new.work.ticks.now.left) c.from_residual-in_err-check_in.result c.in_err-check_in.field-0.0 c.from_residual-in_err-check_in.ensures.1
    (checks_type (env_of c.args.work.now.bank.now c.args.env.now) (context_of c.args.work.now.bank.now c.args.context.now) (tree_of c.args.work.now.bank.now c.args.term) (tree_of c.args.work.now.bank.now c.args.wanted) c.check_in.new.work.bank.now (Err c.in_err-check_in.field-0.0) c.args.work.now.ticks.now.left c.check_in.new.work.ticks.now.left (subst (λ hs. Knows c.args.work.now.bank.now (Ok tt) (names_in (context_of c.args.work.now.bank.now hs)) (tree_of c.args.work.now.bank.now c.args.term)) c.hypotheses.ensures c.in_ok-known.ensures) (subst (λ hs. Knows c.args.work.now.bank.now (Ok tt) (names_in (context_of c.args.work.now.bank.now hs)) (tree_of c.args.work.now.bank.now c.args.wanted)) c.hypotheses-2.ensures c.in_ok-known-2.ensures) (c.in_err-check_in.ensures.answer (env_of c.args.work.now.bank.now c.args.env.now) (context_of c.args.work.now.bank.now c.args.context.now) (tree_of c.args.work.now.bank.now c.args.term) (tree_of c.args.work.now.bank.now c.args.wanted) refl (ap (context_of c.args.work.now.bank.now) c.in_ok-lent.ensures) refl refl))

pub returns-clause-answer : goal.returns-clause-answer
returns-clause-answer g c = (checks_type (env_of c.args.work.now.bank.now c.args.env.now) (context_of c.args.work.now.bank.now c.args.context.now) (tree_of c.args.work.now.bank.now c.args.term) (tree_of c.args.work.now.bank.now c.args.wanted) c.check_in.new.work.bank.now (Ok tt) c.args.work.now.ticks.now.left c.check_in.new.work.ticks.now.left (subst (λ hs. Knows c.args.work.now.bank.now (Ok tt) (names_in (context_of c.args.work.now.bank.now hs)) (tree_of c.args.work.now.bank.now c.args.term)) c.hypotheses.ensures c.in_ok-known.ensures) (subst (λ hs. Knows c.args.work.now.bank.now (Ok tt) (names_in (context_of c.args.work.now.bank.now hs)) (tree_of c.args.work.now.bank.now c.args.wanted)) c.hypotheses-2.ensures c.in_ok-known-2.ensures) (c.in_ok-check_in.ensures.answer (env_of c.args.work.now.bank.now c.args.env.now) (context_of c.args.work.now.bank.now c.args.context.now) (tree_of c.args.work.now.bank.now c.args.term) (tree_of c.args.work.now.bank.now c.args.wanted) refl (ap (context_of c.args.work.now.bank.now) c.in_ok-lent.ensures) refl refl))

pub returns-clause-derives : goal.returns-clause-derives
returns-clause-derives g c = checks_derived (env_of c.args.work.now.bank.now c.args.env.now) (context_of c.args.work.now.bank.now c.args.context.now) (tree_of c.args.work.now.bank.now c.args.term) (tree_of c.args.work.now.bank.now c.args.wanted) c.args.work.now.ticks.now.left c.check_in.new.work.ticks.now.left (checks_type (env_of c.args.work.now.bank.now c.args.env.now) (context_of c.args.work.now.bank.now c.args.context.now) (tree_of c.args.work.now.bank.now c.args.term) (tree_of c.args.work.now.bank.now c.args.wanted) c.check_in.new.work.bank.now (Ok tt) c.args.work.now.ticks.now.left c.check_in.new.work.ticks.now.left (subst (λ hs. Knows c.args.work.now.bank.now (Ok tt) (names_in (context_of c.args.work.now.bank.now hs)) (tree_of c.args.work.now.bank.now c.args.term)) c.hypotheses.ensures c.in_ok-known.ensures) (subst (λ hs. Knows c.args.work.now.bank.now (Ok tt) (names_in (context_of c.args.work.now.bank.now hs)) (tree_of c.args.work.now.bank.now c.args.wanted)) c.hypotheses-2.ensures c.in_ok-known-2.ensures) (c.in_ok-check_in.ensures.answer (env_of c.args.work.now.bank.now c.args.env.now) (context_of c.args.work.now.bank.now c.args.context.now) (tree_of c.args.work.now.bank.now c.args.term) (tree_of c.args.work.now.bank.now c.args.wanted) refl (ap (context_of c.args.work.now.bank.now) c.in_ok-lent.ensures) refl refl))

pub returns-clause-dropped : goal.returns-clause-dropped
returns-clause-dropped g c = nodes_back c.args.work.now.bank.now c.check_in.new.work.bank.now c.undo.new.self c.mark-mark.result c.in_ok-check_in.ensures.grows c.mark-mark.ensures c.undo.ensures.undone
