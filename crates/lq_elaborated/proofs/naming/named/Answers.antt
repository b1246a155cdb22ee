use Rattle.std.proofs.Common.{subst, arith}
use Rattle.lq_terms.specs.Terms.{IsName}
use Rattle.lq_terms.proofs.Growth.{Grows-refl, Grows-trans}
use Rattle.lq_elaborated.proofs.NamingLaws.{named_begins, named_goes, named_ends}
use Rattle.lq_elaborated.proofs.naming.named.Goals as goal

pub loop-constructor-init : goal.loop-constructor-init
loop-constructor-init c = record { made = named_begins c.args.bank.now c.new-made.result c.args.constructors.now c.new-made.ensures; grows = Grows-refl c.args.bank.now }

pub returns-in_err-name-clause-grows : goal.returns-in_err-name-clause-grows
returns-in_err-name-clause-grows c = Grows-trans c.args.bank.now c.loop-constructor.bank c.name.new.self c.loop-constructor.invariant.grows c.in_err-name.ensures.grows

pub returns-in_err-push-clause-grows : goal.returns-in_err-push-clause-grows
returns-in_err-push-clause-grows c = Grows-trans c.args.bank.now c.loop-constructor.bank c.name.new.self c.loop-constructor.invariant.grows c.in_ok-name.ensures.grows

pub loop-constructor-preserved : goal.loop-constructor-preserved
loop-constructor-preserved c = record {
  made =
      named_goes c.loop-constructor.bank c.name.new.self c.in_ok-name.ensures.grows c.args.constructors.now c.loop-constructor.constructor-index c.constructor-item.result c.loop-constructor-test.true c.constructor-item.is c.loop-constructor.made c.push.new.self c.loop-constructor.invariant.made
      c.in_ok-name.name (subst (IsName c.name.new.self c.in_ok-name.name) c.as_str.ensures c.in_ok-name.ensures.named) c.args.kind (omega (arith, c.requires.kind, c.loop-constructor.invariant.grows.nodes, c.in_ok-name.ensures.grows.nodes)) c.in_ok-push.ensures.ok;
  grows = Grows-trans c.args.bank.now c.loop-constructor.bank c.name.new.self c.loop-constructor.invariant.grows c.in_ok-name.ensures.grows;
}

pub returns-clause-named : goal.returns-clause-named
returns-clause-named c = named_ends c.loop-constructor.bank c.loop-constructor.made c.args.constructors.now c.loop-constructor.constructor-index (omega (arith, c.loop-constructor-test.false)) c.loop-constructor.invariant.made

pub returns-clause-grows : goal.returns-clause-grows
returns-clause-grows c = c.loop-constructor.invariant.grows
