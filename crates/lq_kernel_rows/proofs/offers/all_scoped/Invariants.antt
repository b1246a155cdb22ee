use Rattle.std.proofs.Common.{drop}
use Rattle.lq_kernel_rows.specs.Following.{EachScoped}
use Rattle.lq_kernel_rows.proofs.offers.all_scoped.Given as goal

-- all are scoped, if those are that are left
abbrev pub invariant-loop-constructor : goal.invariant-loop-constructor
invariant-loop-constructor l = EachScoped l.bank (drop l.constructor-index l.constructors) → EachScoped l.bank l.constructors
