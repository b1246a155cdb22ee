use Rattle.std.proofs.Common.{sym, arith}
use Rattle.lq_unify.specs.Holding.{tells}
use Rattle.lq_unify.proofs.HeldLaws.{or_nothing}
use Rattle.lq_unify.proofs.HoldLaws.{name_at, names_step, names_end}
use Rattle.lq_unify.proofs.holding.add_names.Goals as goal

pub loop-name-init : goal.loop-name-init
loop-name-init c = record { names = c.requires.names; told = λ m. sym (or_nothing (tells c.args.bank.now m c.args.all.now)) }

pub add_name-requires-clause-name : goal.add_name-requires-clause-name
add_name-requires-clause-name c = name_at c.args.bank.now c.args.names.now c.loop-name.name-index _ c.requires.more c.loop-name-test.true

pub loop-name-preserved : goal.loop-name-preserved
loop-name-preserved c = record {
  names = c.in_ok-add_name.ensures.names;
  told = λ m. names_step c.args.bank.now m c.args.names.now c.loop-name.name-index _ (tells c.args.bank.now m c.args.all.now) (tells c.args.bank.now m c.loop-name.all) (tells c.args.bank.now m c.add_name.new.all) c.loop-name-test.true (c.loop-name.invariant.told m) (c.in_ok-add_name.ensures.told m);
}

pub returns-clause-told : goal.returns-clause-told
returns-clause-told c = λ m. names_end c.args.bank.now m c.args.names.now c.loop-name.name-index (tells c.args.bank.now m c.args.all.now) (tells c.args.bank.now m c.loop-name.all) (omega (arith, c.loop-name-test.false)) (c.loop-name.invariant.told m)
