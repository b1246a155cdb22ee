-- What the kernel's answers tell of the work that a definition gives, under a budget.
use Rattle.std.specs.Prelude.{◌≡◌, ℕ, List, Some, Result, Ok, Err}
use Rattle.lq_trees.specs.Tree.{Tree}
use Rattle.lq_trees.specs.Ticks.{done, failed, steps_out, ComesTo}
use Rattle.lq_terms.specs.declared.nodes.NameId.{NameId}
use Rattle.lq_terms.specs.declared.nodes.TermId.{TermId}
use Rattle.lq_terms.specs.Terms.{Terms, HasName, HasTerm, text_of, tree_of}
use Rattle.lq_calculus.specs.Declarations.{Env as Environment, EnvFault as Refusal}
use Rattle.lq_calculus.specs.Checking.{Kernel, unbound, not_a_product, not_a_sort, mismatch, no_sort_above, has_variable, too_big, type_too_large, type_too_deep, env_fault}
use Rattle.lq_env.specs.declared.family.EnvFault.{EnvFault}
use Rattle.lq_env.specs.declared.environment.Declared.{Declared}
use Rattle.lq_env.specs.Families.{IsFault}
use Rattle.lq_env.specs.Environments.{env_of}
use Rattle.lq_kernel.specs.declared.faults.KernelFault.{KernelFault}

-- the work comes to the fault that a refusal of the environment tells
pub record RefusesDeclaration {A : Type 0} (bank : Terms) (fault : EnvFault) (f : ℕ → Kernel A) (budget left : ℕ) : Type 0 where
  pub refusal : Refusal
  pub tells : IsFault bank fault (Some refusal)
  pub comes : ComesTo f budget (failed (env_fault refusal) left)

-- The work comes to the fault that the refusal tells, whose names and terms lie in the bank, with those ticks left; or the
-- budget is spent, and no tick is left. Memory may end at any time.
abbrev pub Refuses : {A : Type 0} → Terms → KernelFault → (ℕ → Kernel A) → (budget left : ℕ) → Type 0
Refuses bank (KernelFault.Unbound x) f b left = HasName bank x × ComesTo f b (failed (unbound (text_of bank x)) left)
Refuses bank (KernelFault.NotAProduct t) f b left = HasTerm bank t × ComesTo f b (failed (not_a_product (tree_of bank t)) left)
Refuses bank (KernelFault.NotASort t) f b left = HasTerm bank t × ComesTo f b (failed (not_a_sort (tree_of bank t)) left)
Refuses bank (KernelFault.Mismatch found wanted) f b left =
    HasTerm bank found × HasTerm bank wanted × ComesTo f b (failed (mismatch (tree_of bank found) (tree_of bank wanted)) left)
Refuses bank KernelFault.NoSortAbove f b left = ComesTo f b (failed no_sort_above left)
Refuses bank (KernelFault.HasVariable n) f b left = ComesTo f b (failed (has_variable n) left)
Refuses bank KernelFault.StepsOut f b left = ComesTo f b steps_out × (left ≡ 0)
Refuses bank (KernelFault.TooBig x k) f b left = HasName bank x × ComesTo f b (failed (too_big (text_of bank x) k) left)
Refuses bank KernelFault.TooLarge f b left = ComesTo f b (failed type_too_large left)
Refuses bank KernelFault.TooDeep f b left = ComesTo f b (failed type_too_deep left)
Refuses bank (KernelFault.Env fault) f b left = RefusesDeclaration bank fault f b left
Refuses bank KernelFault.NoMemory f b left = Unit {0}

-- the work comes to the type that was inferred, or the refusal is true
abbrev pub Infers : Terms → Result TermId KernelFault → (ℕ → Kernel Tree) → (budget left : ℕ) → Type 0
Infers bank (Ok t) f b left = HasTerm bank t × ComesTo f b (done (tree_of bank t) left)
Infers bank (Err e) f b left = Refuses bank e f b left

-- the work ends well, or the refusal is true
abbrev pub Checks : Terms → Result (Unit {0}) KernelFault → (ℕ → Kernel (Unit {0})) → (budget left : ℕ) → Type 0
Checks bank (Ok ok) f b left = ComesTo f b (done tt left)
Checks bank (Err e) f b left = Refuses bank e f b left

-- the work comes to that environment, or the refusal is true
abbrev pub Accepts : Terms → Result (Unit {0}) KernelFault → Environment → (ℕ → Kernel Environment) → (budget left : ℕ) → Type 0
Accepts bank (Ok ok) new f b left = ComesTo f b (done new left)
Accepts bank (Err e) new f b left = Refuses bank e f b left

-- the work comes to the new environment, or the refusal is true
abbrev pub Declares : Terms → Result (Unit {0}) KernelFault → List (NameId × Declared) → (ℕ → Kernel Environment) → (budget left : ℕ) → Type 0
Declares bank (Ok ok) new f b left = ComesTo f b (done (env_of bank new) left)
Declares bank (Err e) new f b left = Refuses bank e f b left
