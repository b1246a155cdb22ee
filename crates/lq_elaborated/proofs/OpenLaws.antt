-- A family that is being declared, in the environment.
use Rattle.std.proofs.Common.{◌≡◌, ◌∙◌, sym, ap, subst, ℕ, [], ◌∷◌, ◌++◌, List, Option, Some, None, Result, Ok, Err, true, false}
use Rattle.lq_trees.specs.Fresh.{is_listed}
use Rattle.lq_trees.specs.Tree.{Name, Tree}
use Rattle.lq_calculus.specs.Declarations.{Env as Environment, EnvFault as Fault, arity, name_taken, names_of}
use Rattle.lq_kernel.proofs.FamilyWork.{opened_env}
use Rattle.lq_terms.specs.declared.nodes.NameId.{NameId}
use Rattle.lq_terms.specs.declared.nodes.TermId.{TermId}
use Rattle.lq_terms.specs.Telling.{IsClosed}
use Rattle.lq_terms.specs.Terms.{Terms, HasTerm, tree_of}
use Rattle.lq_env.specs.declared.environment.Declared.{Declared}
use Rattle.lq_env.specs.declared.family.EnvFault.{EnvFault}
use Rattle.lq_env.specs.Environments.{Adds, env_of, fault_in, with_arity}
use Rattle.lq_solving.specs.Claims.{ArePlainDeclarations, IsPlain}
use Rattle.lq_elab.proofs.PlainDeclarations.{declarations_joined}
use Rattle.lq_sessions.specs.Sessions.{Work}
use Rattle.lq_causes.specs.Stops.{env_stop}
use Rattle.lq_causes.specs.Stopping.{Stops}

none_some : (f : Fault) → ◌≡◌ {A = Option Fault} None (Some f) → ⊥
none_some f h = cc

pub closed_by : (bank : Terms) (t : TermId) → HasTerm bank t → IsPlain 0 (tree_of bank t) → IsClosed bank 0 t
closed_by bank t h p = record { has = h; within = p.within; holds = p.holds }

module _ (bank : Terms) (ds : List (NameId × Declared)) (E : Environment) (x : Name) (A : Tree) (new : is_listed (names_of E) x ≡ false) where
  abbrev with_it : Environment
  with_it = E ++ (x, arity A) ∷ []

  pub opened_is : Adds bank (Ok tt) ds (with_arity E x A) → env_of bank ds ≡ with_it
  opened_is h = opened_env bank ds E x A new h

  pub opened_plain : ArePlainDeclarations E → IsPlain 0 A → Adds bank (Ok tt) ds (with_arity E x A) → ArePlainDeclarations (env_of bank ds)
  opened_plain p k h = subst ArePlainDeclarations (sym (opened_is h)) (declarations_joined E ((x, arity A) ∷ []) p (k, tt))

  not_taken : fault_in (with_arity E x A) ≡ None
  not_taken = ap (λ b. fault_in (elim b as (λ z. Result Environment Fault) [ true ↦ Err (name_taken x) | false ↦ Ok with_it ])) new

  -- only memory can be wanting
  pub opened_stops : {B : Type 0} (f : ℕ → Work B) (b l : ℕ) (e : EnvFault) → Adds bank (Err e) ds (with_arity E x A) → Stops bank (env_stop e) f b l
  opened_stops f b l (EnvFault.NameTaken y) h = absurd (none_some _ (sym not_taken ∙ h.1))
  opened_stops f b l (EnvFault.NotPositive y k) h = absurd (none_some _ (sym not_taken ∙ h.1))
  opened_stops f b l (EnvFault.NestedUse y k) h = absurd (none_some _ (sym not_taken ∙ h.1))
  opened_stops f b l (EnvFault.BadResult y) h = absurd (none_some _ (sym not_taken ∙ h.1))
  opened_stops f b l (EnvFault.ElimForbidden y s) h = absurd (none_some _ (sym not_taken ∙ h.1))
  opened_stops f b l EnvFault.TooLarge h = absurd (none_some _ (sym not_taken ∙ h))
  opened_stops f b l EnvFault.TooDeep h = absurd (none_some _ (sym not_taken ∙ h))
  opened_stops f b l EnvFault.NoMemory h = tt
