use Rattle.std.proofs.Common.{ℕ, refl, subst}
use Rattle.lq_trees.specs.declared.Sort.{Sort as Universe}
use Rattle.lq_trees.specs.Tree.{Tree, Context}
use Rattle.lq_calculus.specs.Checking.{Kernel}
use Rattle.lq_inference.specs.Inference.{closed}
use Rattle.lq_kernel.specs.Steps.{Sorts}
use Rattle.lq_kernel.proofs.ClosedLaws.{sorts_are}
use Rattle.lq_kernel.proofs.closed.sort_in.Goals as goal

pub returns-clause-answer : goal.returns-clause-answer
returns-clause-answer g c E G T e k i =
    subst (λ (S : ℕ → Context → Tree → Kernel Universe). Sorts c.sort_in.new.work.bank.now c.sort_in.result (λ n. S n G T) c.args.work.now.ticks.now.left c.sort_in.new.work.ticks.now.left) (sorts_are E) (c.sort_in.ensures.answer closed E G T refl e k i)
