use Rattle.std.proofs.Common.{refl}
use Rattle.lq_evars.specs.Places.{store_of}
use Rattle.lq_prims.proofs.DependLaws.{depends_here, depends_later, depends_nowhere}
use Rattle.lq_prims.proofs.depending.any_depends.Goals as goal

pub loop-variable-init : goal.loop-variable-init
loop-variable-init c = refl

pub returns-then-branch : goal.returns-then-branch
returns-then-branch c =
    depends_here (store_of c.args.bank.now c.args.store.now) c.args.other c.args.variables.now c.loop-variable.variable-index 0 c.loop-variable-test.true c.in_ok-kind_depends.field-0 c.in_ok-kind_depends.ensures c.if-branch.true c.loop-variable.invariant

pub loop-variable-preserved : goal.loop-variable-preserved
loop-variable-preserved c =
    depends_later (store_of c.args.bank.now c.args.store.now) c.args.other c.args.variables.now c.loop-variable.variable-index 0 c.loop-variable-test.true c.in_ok-kind_depends.field-0 c.in_ok-kind_depends.ensures c.if-branch.false c.loop-variable.invariant

pub returns : goal.returns
returns c = depends_nowhere (store_of c.args.bank.now c.args.store.now) c.args.other c.args.variables.now c.loop-variable.variable-index 0 c.loop-variable-test.false c.loop-variable.invariant
