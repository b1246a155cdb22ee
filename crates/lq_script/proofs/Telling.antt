-- What the kernel's work comes to under a budget, and what a sentence tells of it.
use Rattle.std.proofs.Common.{◌≡◌, ℕ, ap, sym, Ok, Err}
use Rattle.std.proofs.Common.{subst as along}
use Rattle.lq_trees.specs.declared.Sort.{Sort as Universe}
use Rattle.lq_trees.specs.Ticks.{done, failed, steps_out, ComesTo}
use Rattle.lq_trees.proofs.Outcomes.{comes_is}
use Rattle.lq_terms.specs.Terms.{Terms}
use Rattle.lq_calculus.specs.Checking.{KernelFault as Fault, Kernel}
use Rattle.lq_kernel.specs.declared.faults.KernelFault.{KernelFault}
use Rattle.lq_kernel.specs.Answers.{Refuses}
use Rattle.lq_kernel.specs.Steps.{Sorts}
use Rattle.lq_output.specs.Faults as faults
use Rattle.lq_output.specs.Sentences.{told, ended, comes_to}
use Rattle.lq_script.specs.declared.fault.SentenceFault.{SentenceFault}
use Rattle.lq_script.specs.Proofs.{Tells}
use Rattle.lq_script.specs.Sessions.{HasSort, told_of}

module _ {A : Type 0} (f : ℕ → Kernel A) (b left : ℕ) where
  pub comes_ok : (a : A) → ComesTo f b (done a left) → comes_to b f ≡ Ok a
  unfolding comes_to ended
  comes_ok a h = ap ended (comes_is f b (done a left) h)

  comes_fault : (e : Fault) → ComesTo f b (failed e left) → comes_to b f ≡ Err (told e)
  unfolding comes_to ended
  comes_fault e h = ap ended (comes_is f b (failed e left) h)

  comes_spent : ComesTo f b steps_out → comes_to b f ≡ Err faults.not_built
  unfolding comes_to ended
  comes_spent h = ap ended (comes_is f b steps_out h)

  -- a refusal of the kernel, told of what follows
  pub refuses_tells : (bank : Terms) (e : KernelFault) (So : faults.Fault → Type 0) → ((k : faults.Fault) → comes_to b f ≡ Err k → So k) → Refuses bank e f b left → Tells bank (told_of e) So
  unfolding told
  refuses_tells bank (KernelFault.Unbound x) So m h = m _ (comes_fault _ h.1)
  refuses_tells bank (KernelFault.NotAProduct t) So m h = m _ (comes_fault _ h.1)
  refuses_tells bank (KernelFault.NotASort t) So m h = m _ (comes_fault _ h.1)
  refuses_tells bank (KernelFault.Mismatch t u) So m h = (h.0, h.1, m _ (comes_fault _ h.2))
  refuses_tells bank KernelFault.NoSortAbove So m h = m _ (comes_fault _ h)
  refuses_tells bank (KernelFault.HasVariable n) So m h = m _ (comes_fault _ h)
  refuses_tells bank KernelFault.StepsOut So m h = m _ (comes_spent h.0)
  refuses_tells bank (KernelFault.TooBig x k) So m h = m _ (comes_fault _ h.1)
  refuses_tells bank KernelFault.TooLarge So m h = m _ (comes_fault _ h)
  refuses_tells bank KernelFault.TooDeep So m h = m _ (comes_fault _ h)
  refuses_tells bank (KernelFault.Env e) So m h = m _ (comes_fault _ h.comes)
  refuses_tells bank KernelFault.NoMemory So m h = tt

-- the look for a statement's sort
pub sort_told : (bank : Terms) (u : Universe) (f : ℕ → Kernel Universe) (b left : ℕ) → Sorts bank (Ok u) f b left → HasSort bank (Ok tt) (comes_to b f)
sort_told bank u f b left h = (u, comes_ok f b left u h)

pub sort_refused : (bank : Terms) (e : KernelFault) (k : SentenceFault) → k ≡ told_of e → (f : ℕ → Kernel Universe) (b left : ℕ) → Sorts bank (Err e) f b left → Tells bank k (λ g. comes_to b f ≡ Err g)
sort_refused bank e k is f b left h = along (λ z. Tells bank z (λ g. comes_to b f ≡ Err g)) (sym is) (refuses_tells f b left bank e (λ g. comes_to b f ≡ Err g) (λ g c. c) h)
