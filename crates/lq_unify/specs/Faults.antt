-- Faults of reduction, as those of unification.
use Rattle.lq_reduce.specs.declared.faults.ReduceFault.{ReduceFault}
use Rattle.lq_unify.specs.declared.faults.UnifyFault.{UnifyFault}

-- a fault of reduction, as one of unification
abbrev pub fault_in : ReduceFault → UnifyFault
fault_in ReduceFault.StepsOut = UnifyFault.StepsOut
fault_in ReduceFault.TooLarge = UnifyFault.TooLarge
fault_in ReduceFault.TooDeep = UnifyFault.TooDeep
fault_in ReduceFault.NoMemory = UnifyFault.NoMemory
