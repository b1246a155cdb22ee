use Rattle.std.proofs.Common.{refl, arith, None}
use Rattle.lq_unify.proofs.GivenLaws.{given_more, given_has}
use Rattle.lq_unify.proofs.givens.given_for.Goals as goal

pub loop-i-preserved : goal.loop-i-preserved
loop-i-preserved c = record {
  within = omega (arith, c.loop-i.invariant.within);
  has = given_has c.args.bank.now (λ x y h k e. c.names_apart.ensures x y h k e) _ (λ x y. refl) c.args.context.now c.args.terms.now c.loop-i.given.entries c.insert.new.self.entries c.loop-i.i
      (record { name = record { place = 0 }; body = None; kind = record { place = 0 } }) (record { place = 0 }) c.loop-i-test.true c.loop-i.invariant.within c.requires.as_many c.requires.context c.requires.terms c.loop-i.invariant.has
      c.in_ok-insert.ensures.entries;
  are = given_more c.args.bank.now (λ x y h k e. c.names_apart.ensures x y h k e) _ (λ x y. refl) c.args.context.now c.args.terms.now c.loop-i.given.entries c.insert.new.self.entries c.loop-i.i
      (record { name = record { place = 0 }; body = None; kind = record { place = 0 } }) (record { place = 0 }) c.loop-i-test.true c.loop-i.invariant.within c.requires.as_many c.requires.context c.requires.terms c.loop-i.invariant.has
      c.in_ok-insert.ensures.entries c.loop-i.invariant.are;
}
