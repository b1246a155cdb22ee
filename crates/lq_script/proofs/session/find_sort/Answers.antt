use Rattle.std.proofs.Common.{[], subst, Ok, Err}
use Rattle.lq_terms.specs.Terms.{tree_of}
use Rattle.lq_terms.specs.Contexts.{context_of}
use Rattle.lq_calculus.specs.Checking.{sort_of}
use Rattle.lq_env.specs.Environments.{env_of}
use Rattle.lq_output.specs.Output.{kernel_budget}
use Rattle.lq_kernel.specs.Steps.{Sorts}
use Rattle.lq_script.proofs.Statements.{statement_scoped}
use Rattle.lq_script.proofs.Telling.{sort_told, sort_refused}
use Rattle.lq_script.proofs.session.find_sort.Goals as goal

pub sort_of-requires-clause-term : goal.sort_of-requires-clause-term
sort_of-requires-clause-term g c = statement_scoped c.args.work.now.bank.now c.args.statement c.requires.statement

pub returns-in-Ok-clause-answer : goal.returns-in-Ok-clause-answer
returns-in-Ok-clause-answer g c =
    sort_told c.sort_of.new.work.bank.now c.in-Ok.field-0 (λ n. sort_of (env_of c.args.work.now.bank.now c.args.env.now) n [] (tree_of c.args.work.now.bank.now c.args.statement)) kernel_budget c.sort_of.new.work.ticks.now.left
    (subst (λ b. Sorts c.sort_of.new.work.bank.now (Ok c.in-Ok.field-0) (λ n. sort_of (env_of c.args.work.now.bank.now c.args.env.now) n [] (tree_of c.args.work.now.bank.now c.args.statement)) b c.sort_of.new.work.ticks.now.left) c.requires.budget
    (subst (λ hs. Sorts c.sort_of.new.work.bank.now (Ok c.in-Ok.field-0) (λ n. sort_of (env_of c.args.work.now.bank.now c.args.env.now) n (context_of c.args.work.now.bank.now hs) (tree_of c.args.work.now.bank.now c.args.statement)) c.args.work.now.ticks.now.left c.sort_of.new.work.ticks.now.left) c.new-context.ensures
    c.in-Ok.ensures.answer))

pub returns-clause-answer : goal.returns-clause-answer
returns-clause-answer g c =
    sort_refused c.sort_of.new.work.bank.now c.in-Err.refusal c.told.result c.told.ensures (λ n. sort_of (env_of c.args.work.now.bank.now c.args.env.now) n [] (tree_of c.args.work.now.bank.now c.args.statement)) kernel_budget c.sort_of.new.work.ticks.now.left
    (subst (λ b. Sorts c.sort_of.new.work.bank.now (Err c.in-Err.refusal) (λ n. sort_of (env_of c.args.work.now.bank.now c.args.env.now) n [] (tree_of c.args.work.now.bank.now c.args.statement)) b c.sort_of.new.work.ticks.now.left) c.requires.budget
    (subst (λ hs. Sorts c.sort_of.new.work.bank.now (Err c.in-Err.refusal) (λ n. sort_of (env_of c.args.work.now.bank.now c.args.env.now) n (context_of c.args.work.now.bank.now hs) (tree_of c.args.work.now.bank.now c.args.statement)) c.args.work.now.ticks.now.left c.sort_of.new.work.ticks.now.left) c.new-context.ensures
    c.in-Err.ensures.answer))
