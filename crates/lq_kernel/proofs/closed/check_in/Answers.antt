use Rattle.std.proofs.Common.{ℕ, refl, subst}
use Rattle.lq_trees.specs.Tree.{Tree, Context}
use Rattle.lq_calculus.specs.Checking.{Kernel}
use Rattle.lq_inference.specs.Inference.{closed}
use Rattle.lq_kernel.specs.Answers.{Checks}
use Rattle.lq_kernel.proofs.ClosedLaws.{checks_are}
use Rattle.lq_kernel.proofs.closed.check_in.Goals as goal

pub returns-clause-answer : goal.returns-clause-answer
returns-clause-answer g c E G T U e k i j =
    subst (λ (S : ℕ → Context → Tree → Tree → Kernel (Unit {0})). Checks c.check_in.new.work.bank.now c.check_in.result (λ n. S n G T U) c.args.work.now.ticks.now.left c.check_in.new.work.ticks.now.left) (checks_are E) (c.check_in.ensures.answer closed E G T U refl e k i j)
