use Rattle.std.proofs.Common.{ℕ, refl, subst}
use Rattle.lq_trees.specs.Tree.{Tree, Context}
use Rattle.lq_calculus.specs.Checking.{Kernel}
use Rattle.lq_inference.specs.Inference.{closed}
use Rattle.lq_kernel.specs.Steps.{Types}
use Rattle.lq_kernel.proofs.ClosedLaws.{infers_are}
use Rattle.lq_kernel.proofs.closed.type_of.Goals as goal

pub returns-clause-answer : goal.returns-clause-answer
returns-clause-answer g c E G T e k i =
    subst (λ (S : ℕ → Context → Tree → Kernel Tree). Types c.type_of.new.work.bank.now c.type_of.result (λ n. S n G T) c.args.work.now.ticks.now.left c.type_of.new.work.ticks.now.left) (infers_are E) (c.type_of.ensures.answer closed E G T refl e k i)
