use Rattle.std.proofs.Common.{◌≡◌, drop}
use Rattle.lq_calculus.specs.Declarations.{constructors_fault}
use Rattle.lq_env.specs.Families.{family_of, constructors_of}
use Rattle.lq_env.proofs.positivity.constructors_fault.Given as goal

abbrev pub invariant-loop-constructor : goal.invariant-loop-constructor
invariant-loop-constructor l =
    constructors_fault (family_of l.bank l.family) (constructors_of l.bank (drop l.constructor-index l.constructor-items)) ≡ constructors_fault (family_of l.bank l.family) (constructors_of l.bank l.constructor-items)
