use Rattle.std.proofs.Common.{◌∙◌, ap, arith, length}
use Rattle.lq_unify.proofs.FrameSteps.{pop_keeps, pop_shorter, shortened}
use Rattle.lq_unify.proofs.resuming.shorten.Goals as goal

pub longer-preserved : goal.longer-preserved
longer-preserved c =
    pop_keeps c.pop.result c.args.mark c.longer.context c.pop.new.self c.pop.ensures (omega (arith, ap length c.hypotheses.ensures, c.longer-test.true)) ∙ c.longer.invariant

pub longer-smaller : goal.longer-smaller
longer-smaller c =
    pop_shorter c.pop.result c.args.mark c.longer.context c.pop.new.self c.pop.ensures (omega (arith, ap length c.hypotheses.ensures, c.longer-test.true))

pub returns : goal.returns
returns c =
    shortened c.args.mark c.longer.context c.args.context.now (omega (arith, ap length c.hypotheses.ensures, c.longer-test.false)) c.longer.invariant
