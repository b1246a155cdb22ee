-- Faults of reading and of unification, as those of elaboration.
use Rattle.lq_evars.specs.declared.store.StoreFault.{StoreFault}
use Rattle.lq_unify.specs.declared.faults.UnifyFault.{UnifyFault}
use Rattle.lq_typing.specs.declared.faults.ElabFault.{ElabFault}

abbrev pub read_fault : StoreFault → ElabFault
read_fault StoreFault.TooLarge = ElabFault.TooLarge
read_fault StoreFault.TooDeep = ElabFault.TooDeep
read_fault StoreFault.Full = ElabFault.Full
read_fault StoreFault.NoMemory = ElabFault.NoMemory

abbrev pub unify_fault : UnifyFault → ElabFault
unify_fault UnifyFault.StepsOut = ElabFault.StepsOut
unify_fault UnifyFault.TooLarge = ElabFault.TooLarge
unify_fault UnifyFault.TooDeep = ElabFault.TooDeep
unify_fault UnifyFault.NoMemory = ElabFault.NoMemory
