use Rattle.std.proofs.Common.{subst as along}
use Rattle.lq_env.specs.Environments.{env_of}
use Rattle.lq_inference.specs.Inference.{closed, infer_by}
use Rattle.lq_kernel.specs.Steps.{Types}
use Rattle.lq_terms.specs.Contexts.{context_of}
use Rattle.lq_terms.specs.Terms.{tree_of}
use Rattle.lq_typing.proofs.SingleLaws.{declared_comes, types_pay}
use Rattle.lq_typing.proofs.singles.declared_kind.Goals as goal

pub returns-clause-answer : goal.returns-clause-answer
returns-clause-answer g c s h =
    declared_comes s (env_of c.args.work.now.bank.now c.args.env.now) h c.infer_with.new.work.bank.now c.infer_with.result (tree_of c.args.work.now.bank.now c.args.term) c.args.work.now.ticks.now.left c.infer_with.new.work.ticks.now.left c.requires.declared
    (along (λ z. Types c.infer_with.new.work.bank.now c.infer_with.result (λ n. infer_by closed (env_of c.args.work.now.bank.now c.args.env.now) n (context_of c.args.work.now.bank.now z) (tree_of c.args.work.now.bank.now c.args.term)) c.args.work.now.ticks.now.left c.infer_with.new.work.ticks.now.left)
    c.new-context.ensures c.infer_with.ensures.answer)

pub returns-clause-pays : goal.returns-clause-pays
returns-clause-pays g c =
    types_pay c.infer_with.new.work.bank.now c.infer_with.result closed (env_of c.args.work.now.bank.now c.args.env.now) _ (tree_of c.args.work.now.bank.now c.args.term) c.args.work.now.ticks.now.left c.infer_with.new.work.ticks.now.left c.infer_with.ensures.answer
