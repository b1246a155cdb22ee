use Rattle.std.proofs.Common.{arith, refl, drop}
use Rattle.lq_terms.specs.Contexts.{context_of}
use Rattle.lq_elab.specs.declared.sites.Given.{Given}
use Rattle.lq_elab.specs.Starting.{named_value}
use Rattle.lq_elab.specs.States.{givens_of}
use Rattle.lq_elab.proofs.StartLaws.{value_added, value_stays, value_at, given_name_at, no_values}
use Rattle.lq_elab.proofs.starting.values_set.Goals as goal

pub loop-i-init : goal.loop-i-init
loop-i-init c = record {
  within = omega arith;
  is = no_values c.args.bank.now (context_of c.args.bank.now c.args.context.now) c.args.values.now _ c.args.scope.now refl c.requires.scope;
}

pub meaning_given-meaning-requires-clause-value : goal.meaning_given-meaning-requires-clause-value
meaning_given-meaning-requires-clause-value c = value_at c.args.bank.now (context_of c.args.bank.now c.args.context.now) c.args.values.now c.loop-i.i (record { place = 0 }, Given.Term (record { place = 0 })) c.loop-i-test.true c.loop-i.invariant.within c.requires.values

pub add-requires-clause-name : goal.add-requires-clause-name
add-requires-clause-name c =
    given_name_at c.args.bank.now _ (value_at c.args.bank.now (context_of c.args.bank.now c.args.context.now) c.args.values.now c.loop-i.i (record { place = 0 }, Given.Term (record { place = 0 })) c.loop-i-test.true c.loop-i.invariant.within c.requires.values)

pub loop-i-preserved : goal.loop-i-preserved
loop-i-preserved c = record {
  within = omega (arith, c.loop-i.invariant.within);
  is = c.in_ok-add.ensures (named_value (context_of c.args.bank.now c.args.context.now) (givens_of c.args.bank.now (drop c.loop-i.i c.args.values.now))) _ c.loop-i.invariant.is
      (value_added c.args.bank.now (context_of c.args.bank.now c.args.context.now) c.args.values.now c.loop-i.i (record { place = 0 }, Given.Term (record { place = 0 })) c.loop-i-test.true c.loop-i.invariant.within c.meaning_given-meaning.result c.meaning_given-meaning.ensures.is)
      (value_stays c.args.bank.now (context_of c.args.bank.now c.args.context.now) c.args.values.now c.loop-i.i (record { place = 0 }, Given.Term (record { place = 0 })) c.loop-i-test.true c.loop-i.invariant.within);
}
