-- The kernel's work as elaboration's.
use Rattle.std.proofs.Common.{◌≡◌, ◌∙◌, ℕ, sym, ap, Some, None, Ok, Err}
use Rattle.std.proofs.Common.{subst as along}
use Rattle.lq_trees.specs.Tree.{Tree, Context}
use Rattle.lq_trees.specs.Ticks.{Outcome, done, failed, steps_out, ComesTo}
use Rattle.lq_terms.specs.declared.nodes.TermId.{TermId}
use Rattle.lq_terms.specs.Terms.{Terms, text_of, tree_of}
use Rattle.lq_calculus.specs.Declarations.{Env as Environment, EnvFault as Refusal, name_taken, not_positive, nested_use, bad_result, elim_forbidden, env_too_large, env_too_deep}
use Rattle.lq_calculus.specs.Checking.{KernelFault as Fault, Kernel, env_fault}
use Rattle.lq_kernel.specs.declared.faults.KernelFault.{KernelFault}
use Rattle.lq_env.specs.declared.family.EnvFault.{EnvFault}
use Rattle.lq_kernel.specs.Answers.{Refuses as KernelRefuses, RefusesDeclaration}
use Rattle.lq_solving.specs.ElabFaults.{kernel_fault, by_kernel, type_of}
use Rattle.lq_solving.specs.Inference.{infer_open}
use Rattle.lq_solving.specs.Stores.{Store}
use Rattle.lq_unify.proofs.ReduceSteps.{outcome_as, within_faults}
use Rattle.lq_typing.specs.declared.faults.ElabFault.{ElabFault}
use Rattle.lq_typing.specs.Refusals.{Refuses, Finds, kernel_refusal, declared_refusal}
use Rattle.lq_typing.specs.Kinds.{Comes}

module _ {A : Type 0} (f : ℕ → Kernel A) (b : ℕ) where
  by_outcome : (o : Outcome Fault A) → ComesTo f b o → ComesTo (λ n. by_kernel (f n)) b (outcome_as kernel_fault o)
  by_outcome o h = λ n i. within_faults kernel_fault b (f n) ∙ ap (outcome_as kernel_fault) (h n i)

  pub by_done : (a : A) (left : ℕ) → ComesTo f b (done a left) → ComesTo (λ n. by_kernel (f n)) b (done a left)
  unfolding outcome_as
  by_done a left h = by_outcome (done a left) h

  by_failed : (x : Fault) (left : ℕ) → ComesTo f b (failed x left) → ComesTo (λ n. by_kernel (f n)) b (failed (kernel_fault x) left)
  unfolding outcome_as
  by_failed x left h = by_outcome (failed x left) h

  by_spent : ComesTo f b steps_out → ComesTo (λ n. by_kernel (f n)) b steps_out
  unfolding outcome_as
  by_spent h = by_outcome steps_out h

  env_failed : (r q : Refusal) (left : ℕ) → Some r ≡ Some q → ComesTo f b (failed (env_fault r) left) → ComesTo (λ n. by_kernel (f n)) b (failed (kernel_fault (env_fault q)) left)
  env_failed r q left e h = along (λ z. ComesTo (λ n. by_kernel (f n)) b (failed (kernel_fault (env_fault z)) left)) (ap (λ o. elim o as (λ z. Refusal) [ Some x ↦ x | None ↦ r ]) e) (by_failed (env_fault r) left h)

  env_refused : (bank : Terms) (e : EnvFault) (left : ℕ) → RefusesDeclaration bank e f b left → Refuses bank (declared_refusal e) (λ n. by_kernel (f n)) b left
  unfolding kernel_fault
  env_refused bank (EnvFault.NameTaken x) left h = env_failed h.refusal (name_taken (text_of bank x)) left h.tells.1 h.comes
  env_refused bank (EnvFault.NotPositive c k) left h = env_failed h.refusal (not_positive (text_of bank c) k) left h.tells.1 h.comes
  env_refused bank (EnvFault.NestedUse c k) left h = env_failed h.refusal (nested_use (text_of bank c) k) left h.tells.1 h.comes
  env_refused bank (EnvFault.BadResult c) left h = env_failed h.refusal (bad_result (text_of bank c)) left h.tells.1 h.comes
  env_refused bank (EnvFault.ElimForbidden c u) left h = (h.tells.0, env_failed h.refusal (elim_forbidden (text_of bank c) u) left h.tells.1 h.comes)
  env_refused bank EnvFault.TooLarge left h = env_failed h.refusal env_too_large left h.tells h.comes
  env_refused bank EnvFault.TooDeep left h = env_failed h.refusal env_too_deep left h.tells h.comes
  env_refused bank EnvFault.NoMemory left h = tt

  -- a refusal of the kernel's work
  pub by_refused : (bank : Terms) (e : KernelFault) (left : ℕ) → KernelRefuses bank e f b left → Refuses bank (kernel_refusal e) (λ n. by_kernel (f n)) b left
  unfolding kernel_fault
  by_refused bank (KernelFault.Unbound x) left h = (h.0, by_failed _ left h.1)
  by_refused bank (KernelFault.NotAProduct t) left h = (h.0, by_failed _ left h.1)
  by_refused bank (KernelFault.NotASort t) left h = (h.0, by_failed _ left h.1)
  by_refused bank (KernelFault.Mismatch t u) left h = (h.0, h.1, by_failed _ left h.2)
  by_refused bank KernelFault.NoSortAbove left h = by_failed _ left h
  by_refused bank (KernelFault.HasVariable n) left h = by_failed _ left h
  by_refused bank KernelFault.StepsOut left h = (by_spent h.0, h.1)
  by_refused bank (KernelFault.TooBig x k) left h = by_failed _ left h.1
  by_refused bank KernelFault.TooLarge left h = by_failed _ left h
  by_refused bank KernelFault.TooDeep left h = by_failed _ left h
  by_refused bank KernelFault.NoMemory left h = tt
  by_refused bank (KernelFault.Env e) left h = env_refused bank e left h

-- the call
module _ (bank : Terms) (E : Environment) (s : Store) (g : Context) (T : Tree) (b left : ℕ) where
  pub type_found : (t : TermId) → Comes bank (Ok t) (λ n. infer_open E n s g T) b left → Finds bank (Ok t) (λ n. type_of E n s g T) b left
  unfolding type_of
  type_found t h = (h.0, by_done (λ n. infer_open E n s g T) b (tree_of bank t) left h.2)

  pub type_refused : (e : KernelFault) (r : ElabFault) → r ≡ kernel_refusal e → Comes bank (Err e) (λ n. infer_open E n s g T) b left → Finds bank (Err r) (λ n. type_of E n s g T) b left
  unfolding type_of
  type_refused e r q h = along (λ z. Finds bank (Err z) (λ n. type_of E n s g T) b left) (sym q) (by_refused (λ n. infer_open E n s g T) b bank e left h)
