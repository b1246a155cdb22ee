-- A type that was measured.
use Rattle.std.proofs.Common.{ℕ, Ok, Err}
use Rattle.lq_trees.specs.Tree.{Tree}
use Rattle.lq_trees.specs.Ticks.{done, ComesTo}
use Rattle.lq_trees.proofs.Outcomes.{comes_gives, comes_fails}
use Rattle.lq_terms.specs.declared.nodes.TermId.{TermId}
use Rattle.lq_terms.specs.Terms.{Terms}
use Rattle.lq_calculus.specs.Checking.{fitting, type_too_large, type_too_deep}
use Rattle.lq_kernel.specs.declared.faults.KernelFault.{KernelFault}
use Rattle.lq_kernel.specs.Answers.{Refuses}
use Rattle.lq_kernel.specs.Steps.{Fitted}
use Rattle.lq_kernel.proofs.FormLaws.{fitting_fits, fitting_large, fitting_deep}

pub fitted_refuses : (bank : Terms) (e : KernelFault) (U : Tree) (b : ℕ) → Fitted bank (Err e) U → Refuses bank e (λ n. fitting U) b b
fitted_refuses bank KernelFault.TooLarge U b h = comes_fails (λ n. fitting U) type_too_large b (λ n. fitting_large U h)
fitted_refuses bank KernelFault.TooDeep U b h = comes_fails (λ n. fitting U) type_too_deep b (λ n. fitting_deep U h)
fitted_refuses bank KernelFault.NoMemory U b h = tt
fitted_refuses bank (KernelFault.Unbound x) U b h = absurd h
fitted_refuses bank (KernelFault.NotAProduct t) U b h = absurd h
fitted_refuses bank (KernelFault.NotASort t) U b h = absurd h
fitted_refuses bank (KernelFault.Mismatch t u) U b h = absurd h
fitted_refuses bank KernelFault.NoSortAbove U b h = absurd h
fitted_refuses bank (KernelFault.HasVariable n) U b h = absurd h
fitted_refuses bank KernelFault.StepsOut U b h = absurd h
fitted_refuses bank (KernelFault.TooBig x k) U b h = absurd h
fitted_refuses bank (KernelFault.Env e) U b h = absurd h

pub fitted_comes : (bank : Terms) (t : TermId) (U : Tree) (b : ℕ) → Fitted bank (Ok t) U → ComesTo (λ n. fitting U) b (done U b)
fitted_comes bank t U b h = comes_gives (λ n. fitting U) U b (λ n. fitting_fits U h.1)
