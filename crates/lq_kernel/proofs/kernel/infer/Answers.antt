use Rattle.std.proofs.Common.{subst, ap, refl, Ok, Err}
use Rattle.lq_terms.specs.Terms.{tree_of}
use Rattle.lq_terms.specs.Contexts.{context_of}
use Rattle.lq_env.specs.Environments.{env_of}
use Rattle.lq_kernel.specs.Steps.{Knows}
use Rattle.lq_kernel.proofs.LookLaws.{names_in}
use Rattle.lq_kernel.proofs.CallLaws.{infers_strange, infers_type, infers_derives}
use Rattle.lq_kernel.proofs.kernel.infer.Goals as goal

pub returns-in_err-known-clause-answer : goal.returns-in_err-known-clause-answer
returns-in_err-known-clause-answer g c =
    infers_strange (env_of c.args.work.now.bank.now c.args.env.now) (context_of c.args.work.now.bank.now c.args.context.now) (tree_of c.args.work.now.bank.now c.args.term) c.args.work.now.bank.now c.from_residual.result c.in_err-known.field-0.0 c.args.work.now.ticks.now.left c.from_residual.ensures.1 (subst (λ hs. Knows c.args.work.now.bank.now (Err c.in_err-known.field-0.0) (names_in (context_of c.args.work.now.bank.now hs)) (tree_of c.args.work.now.bank.now c.args.term)) c.hypotheses.ensures c.in_err-known.ensures)

pub returns-clause-answer : goal.returns-clause-answer
returns-clause-answer g c = (infers_type (env_of c.args.work.now.bank.now c.args.env.now) (context_of c.args.work.now.bank.now c.args.context.now) (tree_of c.args.work.now.bank.now c.args.term) c.type_of.new.work.bank.now c.type_of.result c.args.work.now.ticks.now.left c.type_of.new.work.ticks.now.left (subst (λ hs. Knows c.args.work.now.bank.now (Ok tt) (names_in (context_of c.args.work.now.bank.now hs)) (tree_of c.args.work.now.bank.now c.args.term)) c.hypotheses.ensures c.in_ok-known.ensures) (c.type_of.ensures.answer (env_of c.args.work.now.bank.now c.args.env.now) (context_of c.args.work.now.bank.now c.args.context.now) (tree_of c.args.work.now.bank.now c.args.term) refl (ap (context_of c.args.work.now.bank.now) c.in_ok-lent.ensures) refl))

pub returns-clause-derives : goal.returns-clause-derives
returns-clause-derives g c = infers_derives (env_of c.args.work.now.bank.now c.args.env.now) (context_of c.args.work.now.bank.now c.args.context.now) (tree_of c.args.work.now.bank.now c.args.term) c.type_of.new.work.bank.now c.type_of.result c.args.work.now.ticks.now.left c.type_of.new.work.ticks.now.left (infers_type (env_of c.args.work.now.bank.now c.args.env.now) (context_of c.args.work.now.bank.now c.args.context.now) (tree_of c.args.work.now.bank.now c.args.term) c.type_of.new.work.bank.now c.type_of.result c.args.work.now.ticks.now.left c.type_of.new.work.ticks.now.left (subst (λ hs. Knows c.args.work.now.bank.now (Ok tt) (names_in (context_of c.args.work.now.bank.now hs)) (tree_of c.args.work.now.bank.now c.args.term)) c.hypotheses.ensures c.in_ok-known.ensures) (c.type_of.ensures.answer (env_of c.args.work.now.bank.now c.args.env.now) (context_of c.args.work.now.bank.now c.args.context.now) (tree_of c.args.work.now.bank.now c.args.term) refl (ap (context_of c.args.work.now.bank.now) c.in_ok-lent.ensures) refl))
