use Rattle.std.proofs.Common.{refl, Ok, Err}
use Rattle.std.proofs.Common.{subst as along}
use Rattle.lq_calculus.specs.Checking.{matching}
use Rattle.lq_env.specs.Environments.{env_of}
use Rattle.lq_evars.specs.Places.{store_of}
use Rattle.lq_kernel.specs.Answers.{Checks}
use Rattle.lq_kernel.proofs.Goes.{err_out}
use Rattle.lq_kernel.proofs.FormLaws.{matching_out, matching_yes, mismatched}
use Rattle.lq_calculus.specs.Checking.{conv}
use Rattle.lq_calculus.specs.Declarations.{rules_of}
use Rattle.lq_kernel.specs.Steps.{Answers}
use Rattle.lq_solving.specs.Stores.{read_context}
use Rattle.lq_terms.specs.Contexts.{context_of}
use Rattle.lq_terms.specs.Terms.{tree_of}
use Rattle.lq_typing.proofs.forms.matching.Goals as goal

pub returns-in_err-same-clause-answer : goal.returns-in_err-same-clause-answer
returns-in_err-same-clause-answer g c =
    err_out (λ z. Checks c.compares.new.work.bank.now z (λ n. matching (env_of c.args.work.now.bank.now c.args.env.now) n (read_context (store_of c.args.work.now.bank.now c.args.store.now) (context_of c.args.work.now.bank.now c.args.context.now)) (tree_of c.args.work.now.bank.now c.args.found) (tree_of c.args.work.now.bank.now c.args.wanted)) c.args.work.now.ticks.now.left c.compares.new.work.ticks.now.left) c.from_residual.result c.in_err-same.field-0.0 c.from_residual.ensures.1
    (matching_out (env_of c.args.work.now.bank.now c.args.env.now) (read_context (store_of c.args.work.now.bank.now c.args.store.now) (context_of c.args.work.now.bank.now c.args.context.now)) (tree_of c.args.work.now.bank.now c.args.found) (tree_of c.args.work.now.bank.now c.args.wanted) c.compares.new.work.bank.now c.args.work.now.ticks.now.left c.compares.new.work.ticks.now.left c.in_err-same.field-0.0
    (along (λ z. Answers c.compares.new.work.bank.now (Err c.in_err-same.field-0.0) (λ n. conv (rules_of (env_of c.args.work.now.bank.now c.args.env.now)) (read_context (store_of c.args.work.now.bank.now c.args.store.now) (context_of c.args.work.now.bank.now c.args.context.now)) n (tree_of c.args.work.now.bank.now c.args.found) z) c.args.work.now.ticks.now.left c.compares.new.work.ticks.now.left) c.requires.wanted.reads c.in_err-same.ensures.answer))

pub returns-then-same-clause-answer : goal.returns-then-same-clause-answer
returns-then-same-clause-answer g c =
    matching_yes (env_of c.args.work.now.bank.now c.args.env.now) (read_context (store_of c.args.work.now.bank.now c.args.store.now) (context_of c.args.work.now.bank.now c.args.context.now)) (tree_of c.args.work.now.bank.now c.args.found) (tree_of c.args.work.now.bank.now c.args.wanted) c.compares.new.work.bank.now c.args.work.now.ticks.now.left c.compares.new.work.ticks.now.left c.in_ok-same.same c.if-same.true
    (along (λ z. Answers c.compares.new.work.bank.now (Ok c.in_ok-same.same) (λ n. conv (rules_of (env_of c.args.work.now.bank.now c.args.env.now)) (read_context (store_of c.args.work.now.bank.now c.args.store.now) (context_of c.args.work.now.bank.now c.args.context.now)) n (tree_of c.args.work.now.bank.now c.args.found) z) c.args.work.now.ticks.now.left c.compares.new.work.ticks.now.left) c.requires.wanted.reads c.in_ok-same.ensures.answer)

pub returns-else-same-clause-answer : goal.returns-else-same-clause-answer
returns-else-same-clause-answer g c =
    mismatched (env_of c.args.work.now.bank.now c.args.env.now) (read_context (store_of c.args.work.now.bank.now c.args.store.now) (context_of c.args.work.now.bank.now c.args.context.now)) (tree_of c.args.work.now.bank.now c.args.found) (tree_of c.args.work.now.bank.now c.args.wanted) c.args.work.now.bank.now c.compares.new.work.bank.now c.args.work.now.ticks.now.left c.compares.new.work.ticks.now.left c.args.found c.args.wanted c.in_ok-same.same c.in_ok-same.ensures.grows c.requires.found.has c.requires.wanted.has refl refl c.if-same.false
    (along (λ z. Answers c.compares.new.work.bank.now (Ok c.in_ok-same.same) (λ n. conv (rules_of (env_of c.args.work.now.bank.now c.args.env.now)) (read_context (store_of c.args.work.now.bank.now c.args.store.now) (context_of c.args.work.now.bank.now c.args.context.now)) n (tree_of c.args.work.now.bank.now c.args.found) z) c.args.work.now.ticks.now.left c.compares.new.work.ticks.now.left) c.requires.wanted.reads c.in_ok-same.ensures.answer)
