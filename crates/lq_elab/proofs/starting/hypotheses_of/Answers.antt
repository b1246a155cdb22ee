use Rattle.std.proofs.Common.{arith, refl, drop, None}
use Rattle.lq_terms.specs.Contexts.{context_of}
use Rattle.lq_elab.specs.Starting.{named_hypothesis}
use Rattle.lq_elab.proofs.StartLaws.{hypothesis_added, hypothesis_stays, hypothesis_at, none_named}
use Rattle.lq_elab.proofs.starting.hypotheses_of.Goals as goal

pub loop-i-init : goal.loop-i-init
loop-i-init c = record {
  within = omega arith;
  is = none_named c.args.bank.now c.args.context.now _ c.new-scope.result refl (c.new-scope.ensures c.args.bank.now);
}

pub add-requires-clause-name : goal.add-requires-clause-name
add-requires-clause-name c = (hypothesis_at c.args.bank.now c.args.context.now c.loop-i.i (record { name = record { place = 0 }; body = None; kind = record { place = 0 } }) c.loop-i-test.true c.loop-i.invariant.within c.requires).name

pub add-requires-clause-meaning : goal.add-requires-clause-meaning
add-requires-clause-meaning c =
    let h = hypothesis_at c.args.bank.now c.args.context.now c.loop-i.i (record { name = record { place = 0 }; body = None; kind = record { place = 0 } }) c.loop-i-test.true c.loop-i.invariant.within c.requires in (h.name, h.kind)

pub loop-i-preserved : goal.loop-i-preserved
loop-i-preserved c = record {
  within = omega (arith, c.loop-i.invariant.within);
  is = c.in_ok-add.ensures (named_hypothesis (context_of c.args.bank.now (drop c.loop-i.i c.args.context.now))) _ c.loop-i.invariant.is
      (hypothesis_added c.args.bank.now c.args.context.now c.loop-i.i (record { name = record { place = 0 }; body = None; kind = record { place = 0 } }) c.loop-i-test.true c.loop-i.invariant.within)
      (hypothesis_stays c.args.bank.now c.args.context.now c.loop-i.i (record { name = record { place = 0 }; body = None; kind = record { place = 0 } }) c.loop-i-test.true c.loop-i.invariant.within);
}
