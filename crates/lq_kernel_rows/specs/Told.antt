-- What a refusal names in a bank.
use Rattle.std.specs.Prelude.{Result, Ok, Err}
use Rattle.lq_terms.specs.declared.nodes.TermId.{TermId}
use Rattle.lq_terms.specs.declared.change.SizeFault.{SizeFault}
use Rattle.lq_terms.specs.Terms.{Terms, HasName, HasTerm}
use Rattle.lq_env.specs.declared.family.EnvFault.{EnvFault}
use Rattle.lq_kernel.specs.declared.faults.KernelFault.{KernelFault}

-- the bank has the names that a refusal of an environment carries
abbrev pub HasEnvFault : Terms → EnvFault → Type 0
HasEnvFault bank (EnvFault.NameTaken x) = HasName bank x
HasEnvFault bank (EnvFault.NotPositive c k) = HasName bank c
HasEnvFault bank (EnvFault.NestedUse c k) = HasName bank c
HasEnvFault bank (EnvFault.BadResult c) = HasName bank c
HasEnvFault bank (EnvFault.ElimForbidden c s) = HasName bank c
HasEnvFault bank EnvFault.TooLarge = Unit {0}
HasEnvFault bank EnvFault.TooDeep = Unit {0}
HasEnvFault bank EnvFault.NoMemory = Unit {0}

-- the bank has the names and terms that a fault carries
abbrev pub HasFault : Terms → KernelFault → Type 0
HasFault bank (KernelFault.Unbound x) = HasName bank x
HasFault bank (KernelFault.NotAProduct t) = HasTerm bank t
HasFault bank (KernelFault.NotASort t) = HasTerm bank t
HasFault bank (KernelFault.Mismatch t u) = HasTerm bank t × HasTerm bank u
HasFault bank KernelFault.NoSortAbove = Unit {0}
HasFault bank (KernelFault.HasVariable n) = Unit {0}
HasFault bank KernelFault.StepsOut = Unit {0}
HasFault bank (KernelFault.TooBig x k) = HasName bank x
HasFault bank KernelFault.TooLarge = Unit {0}
HasFault bank KernelFault.TooDeep = Unit {0}
HasFault bank (KernelFault.Env e) = HasEnvFault bank e
HasFault bank KernelFault.NoMemory = Unit {0}

-- a term that may be there lies in the bank
abbrev pub IfTerm : Terms → Result TermId SizeFault → Type 0
IfTerm bank (Ok t) = HasTerm bank t
IfTerm bank (Err e) = Unit {0}
