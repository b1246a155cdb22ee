-- The refusals of elaboration as what stops a sentence.
use Rattle.lq_typing.specs.declared.faults.ElabFault.{ElabFault}
use Rattle.lq_print.specs.declared.causes.DeclarationCause.{DeclarationCause}
use Rattle.lq_print.specs.declared.causes.LtacCause.{LtacCause}
use Rattle.lq_print.specs.declared.causes.PrimitiveCause.{PrimitiveCause}
use Rattle.lq_print.specs.declared.causes.TermCause.{TermCause}
use Rattle.lq_print.specs.declared.causes.Cause.{Cause}
use Rattle.lq_causes.specs.declared.stops.Stop.{Stop}

-- each refusal as its cause; want of memory is none
abbrev pub elab_stop : ElabFault → Stop
elab_stop (ElabFault.Unknown x) = Stop.Refused (Cause.Term (TermCause.Unknown x))
elab_stop (ElabFault.Mismatch t u) = Stop.Refused (Cause.Term (TermCause.Mismatch t u))
elab_stop (ElabFault.NotAProduct t) = Stop.Refused (Cause.Term (TermCause.NotAProduct t))
elab_stop ElabFault.NoSortAbove = Stop.Refused (Cause.Term TermCause.NoSortAbove)
elab_stop (ElabFault.CannotInfer p) = Stop.Refused (Cause.Term (TermCause.CannotInfer p))
elab_stop (ElabFault.NotASort t) = Stop.Refused (Cause.Term (TermCause.NotASort t))
elab_stop (ElabFault.ElimForbidden x s) = Stop.Refused (Cause.Declaration (DeclarationCause.ElimForbidden x s))
elab_stop (ElabFault.NameInUse x) = Stop.Refused (Cause.Primitive (PrimitiveCause.NameInUse x))
elab_stop ElabFault.StepsOut = Stop.Refused (Cause.Term TermCause.StepsOut)
elab_stop ElabFault.TooLarge = Stop.Refused (Cause.Term TermCause.TooLarge)
elab_stop ElabFault.TooDeep = Stop.Refused (Cause.Term TermCause.TooDeep)
elab_stop ElabFault.Full = Stop.Refused (Cause.Term TermCause.Full)
elab_stop (ElabFault.NotATerm x) = Stop.Refused (Cause.Ltac (LtacCause.NotATerm x))
elab_stop ElabFault.NoMemory = Stop.NoMemory
