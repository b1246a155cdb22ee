use Rattle.std.proofs.Common.{arith, ap}
use Rattle.lq_trees.specs.declared.Measure.{Measure}
use Rattle.lq_env.proofs.Loops.{weight_step, no_hypothesis}
use Rattle.lq_env.proofs.telescopes.context_nodes.Goals as goal

pub loop-hypothesis-preserved : goal.loop-hypothesis-preserved
loop-hypothesis-preserved c =
    omega (arith, c.loop-hypothesis.invariant, weight_step c.args.bank.now c.args.context.now c.loop-hypothesis.hypothesis-index no_hypothesis c.loop-hypothesis-test.true, c.min-nodes.ensures, ap (λ (m : Measure). m.size) c.measure.ensures)
