-- Where the environment refuses nothing, only memory can be wanting.
use Rattle.std.proofs.Common.{◌≡◌, ◌∙◌, refl, sym, ap, ap₂, List, [], ◌∷◌, ◌++◌, Option, Some, None, Result, Ok, Err, Bool, true, false}
use Rattle.lq_trees.specs.Tree.{Tree}
use Rattle.lq_trees.specs.Fresh.{is_listed}
use Rattle.lq_terms.specs.declared.nodes.NameId.{NameId}
use Rattle.lq_terms.specs.Terms.{Terms, HasName, Grows, text_of}
use Rattle.lq_calculus.specs.Declarations.{Env as Environment, EnvFault as Fault, constant, arity, name_taken, names_of, add_constant}
use Rattle.lq_env.specs.declared.family.EnvFault.{EnvFault}
use Rattle.lq_env.specs.declared.environment.Declared.{Declared}
use Rattle.lq_env.specs.Families.{Refuses}
use Rattle.lq_env.specs.Environments.{Adds, IsEnv, env_of, fault_in, with_arity}
use Rattle.lq_kernel.proofs.Grown.{env_at}

none_some : (f : Fault) → ◌≡◌ {A = Option Fault} None (Some f) → ⊥
none_some f h = cc

pub only_memory : (bank : Terms) (e : EnvFault) (r : Result Environment Fault) (new : Environment) → r ≡ Ok new → Refuses bank e (fault_in r) → e ≡ EnvFault.NoMemory
only_memory bank (EnvFault.NameTaken x) r new i h = absurd (none_some _ (sym (ap fault_in i) ∙ h.1))
only_memory bank (EnvFault.NotPositive x k) r new i h = absurd (none_some _ (sym (ap fault_in i) ∙ h.1))
only_memory bank (EnvFault.NestedUse x k) r new i h = absurd (none_some _ (sym (ap fault_in i) ∙ h.1))
only_memory bank (EnvFault.BadResult x) r new i h = absurd (none_some _ (sym (ap fault_in i) ∙ h.1))
only_memory bank (EnvFault.ElimForbidden x s) r new i h = absurd (none_some _ (sym (ap fault_in i) ∙ h.1))
only_memory bank EnvFault.TooLarge r new i h = absurd (none_some _ (sym (ap fault_in i) ∙ h))
only_memory bank EnvFault.TooDeep r new i h = absurd (none_some _ (sym (ap fault_in i) ∙ h))
only_memory bank EnvFault.NoMemory r new i h = refl

-- a new name, in a bank that has grown
module _ (old bank : Terms) (g : Grows old bank) (ds new : List (NameId × Declared)) (x : NameId) (e : EnvFault) (h : IsEnv old ds) (hx : HasName old x) (n : is_listed (names_of (env_of old ds)) (text_of old x) ≡ false) where
  free : is_listed (names_of (env_of bank ds)) (text_of bank x) ≡ false
  free = ap₂ (λ D y. is_listed (names_of D) y) (env_at old bank g ds (env_of old ds) h refl) (g.text x hx) ∙ n

  pub constant_lacks : (A t : Tree) (opaque : Bool) → Adds bank (Err e) new (add_constant (env_of bank ds) (text_of bank x) A t opaque) → e ≡ EnvFault.NoMemory
  unfolding add_constant
  constant_lacks A t opaque k =
      only_memory bank e (add_constant (env_of bank ds) (text_of bank x) A t opaque) (env_of bank ds ++ (text_of bank x, constant A t opaque) ∷ [])
      (ap (λ b. elim b as (λ z. Result Environment Fault) [ true ↦ Err (name_taken (text_of bank x)) | false ↦ Ok (env_of bank ds ++ ((text_of bank x, constant A t opaque) ∷ [])) ]) free) k

  pub arity_lacks : (A : Tree) → Adds bank (Err e) new (with_arity (env_of bank ds) (text_of bank x) A) → e ≡ EnvFault.NoMemory
  arity_lacks A k =
      only_memory bank e (with_arity (env_of bank ds) (text_of bank x) A) (env_of bank ds ++ (text_of bank x, arity A) ∷ [])
      (ap (λ b. elim b as (λ z. Result Environment Fault) [ true ↦ Err (name_taken (text_of bank x)) | false ↦ Ok (env_of bank ds ++ ((text_of bank x, arity A) ∷ [])) ]) free) k
