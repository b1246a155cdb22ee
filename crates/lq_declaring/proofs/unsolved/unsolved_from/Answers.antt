use Rattle.std.proofs.Common.{arith}
use Rattle.lq_declaring.proofs.UnsolvedLaws.{counts_last, counts_first}
use Rattle.lq_declaring.proofs.unsolved.unsolved_from.Goals as goal

pub variables-init : goal.variables-init
variables-init c = record {
  few = omega (arith, c.count-at.type_inv);
  low = omega (arith, c.requires, c.count-at.ensures.length);
  inside = omega (arith, c.count-at.ensures.length);
  told = λ bank kept. counts_last bank c.args.store.now c.count-at.result c.count-at.ensures.length;
}

pub returns : goal.returns
returns c bank kept =
    counts_first bank c.args.store.now c.variables.at c.args.first c.variables.open (omega (arith, c.variables.invariant.low, c.variables-test.false)) (c.variables.invariant.told bank kept)
