-- What a refusal carries lies in the bank.
use Rattle.std.proofs.Common.{◌≡◌, ℕ, List, Option, Some}
use Rattle.lq_terms.specs.Terms.{Terms}
use Rattle.lq_calculus.specs.Declarations.{EnvFault as Refusal}
use Rattle.lq_calculus.specs.Checking.{Kernel}
use Rattle.lq_env.specs.declared.family.EnvFault.{EnvFault}
use Rattle.lq_env.specs.Families.{IsFault, Refuses as RefusesFamily}
use Rattle.lq_kernel.specs.declared.faults.KernelFault.{KernelFault}
use Rattle.lq_kernel.specs.Answers.{Refuses}
use Rattle.lq_kernel_rows.specs.Told.{HasFault, HasEnvFault}

pub has_env_fault : (bank : Terms) (e : EnvFault) (f : Option Refusal) → IsFault bank e f → HasEnvFault bank e
has_env_fault bank (EnvFault.NameTaken x) f h = h.0
has_env_fault bank (EnvFault.NotPositive c k) f h = h.0
has_env_fault bank (EnvFault.NestedUse c k) f h = h.0
has_env_fault bank (EnvFault.BadResult c) f h = h.0
has_env_fault bank (EnvFault.ElimForbidden c s) f h = h.0
has_env_fault bank EnvFault.TooLarge f h = tt
has_env_fault bank EnvFault.TooDeep f h = tt
has_env_fault bank EnvFault.NoMemory f h = tt

pub has_refusal : (bank : Terms) (e : EnvFault) (f : Option Refusal) → RefusesFamily bank e f → HasEnvFault bank e
has_refusal bank (EnvFault.NameTaken x) f h = h.0
has_refusal bank (EnvFault.NotPositive c k) f h = h.0
has_refusal bank (EnvFault.NestedUse c k) f h = h.0
has_refusal bank (EnvFault.BadResult c) f h = h.0
has_refusal bank (EnvFault.ElimForbidden c s) f h = h.0
has_refusal bank EnvFault.TooLarge f h = tt
has_refusal bank EnvFault.TooDeep f h = tt
has_refusal bank EnvFault.NoMemory f h = tt

pub has_fault : {A : Type 0} (bank : Terms) (e : KernelFault) (f : ℕ → Kernel A) (budget left : ℕ) → Refuses bank e f budget left → HasFault bank e
has_fault bank (KernelFault.Unbound x) f b l r = r.0
has_fault bank (KernelFault.NotAProduct t) f b l r = r.0
has_fault bank (KernelFault.NotASort t) f b l r = r.0
has_fault bank (KernelFault.Mismatch t u) f b l r = (r.0, r.1)
has_fault bank KernelFault.NoSortAbove f b l r = tt
has_fault bank (KernelFault.HasVariable n) f b l r = tt
has_fault bank KernelFault.StepsOut f b l r = tt
has_fault bank (KernelFault.TooBig x k) f b l r = r.0
has_fault bank KernelFault.TooLarge f b l r = tt
has_fault bank KernelFault.TooDeep f b l r = tt
has_fault bank (KernelFault.Env e) f b l r = has_env_fault bank e (Some r.refusal) r.tells
has_fault bank KernelFault.NoMemory f b l r = tt

pub ruleset refusals = (has_fault, has_refusal)
