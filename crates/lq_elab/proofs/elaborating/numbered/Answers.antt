use Rattle.std.proofs.Common.{◌∙◌, ◌-◌, ◌+◌, ◌++◌, ap, arith}
use Rattle.lq_solving.specs.Elaboration.{numbers}
use Rattle.lq_elab.proofs.RunLaws.{numbers_more, numbers_end}
use Rattle.lq_elab.proofs.elaborating.numbered.Goals as goal

pub loop-number-preserved : goal.loop-number-preserved
loop-number-preserved c = record {
  within = omega (arith, c.loop-number-test.true);
  are = ap (λ z. z ++ numbers (c.loop-number.number + 1) (c.args.end - (c.loop-number.number + 1))) c.in_ok-push.ensures.items
      ∙ numbers_more c.loop-number.made.items c.loop-number.number c.args.end (omega (arith, c.loop-number-test.true)) ∙ c.loop-number.invariant.are;
}

pub returns : goal.returns
returns c = numbers_end c.loop-number.made.items c.loop-number.number c.args.end (omega (arith, c.loop-number-test.false)) ∙ c.loop-number.invariant.are
