-- What the refusals of elaboration and of inference over a store tell of the work that a definition gives, under a budget.
use Rattle.std.specs.Prelude.{◌≡◌, ℕ, Result, Ok, Err}
use Rattle.lq_trees.specs.Tree.{Tree}
use Rattle.lq_trees.specs.Ticks.{done, failed, steps_out, ComesTo}
use Rattle.lq_terms.specs.declared.nodes.TermId.{TermId}
use Rattle.lq_terms.specs.Terms.{Terms, HasName, HasTerm, text_of, tree_of}
use Rattle.lq_solving.specs.ElabFaults.{ElabFault as TreeFault, Elab, unknown, found_wanted, no_product, nothing_above, cannot_infer, no_sort, forbidden, name_in_use, elab_too_large, elab_too_deep, full, not_a_term}
use Rattle.lq_env.specs.declared.family.EnvFault.{EnvFault}
use Rattle.lq_kernel.specs.declared.faults.KernelFault.{KernelFault}
use Rattle.lq_typing.specs.declared.faults.ElabFault.{ElabFault}

-- A fault of elaboration is the definition's, and its names and terms lie in the bank. Memory may end at any time.
abbrev pub IsElabFault : Terms → ElabFault → TreeFault → Type 0
IsElabFault bank (ElabFault.Unknown x) f = HasName bank x × (f ≡ unknown (text_of bank x))
IsElabFault bank (ElabFault.Mismatch found wanted) f = HasTerm bank found × HasTerm bank wanted × (f ≡ found_wanted (tree_of bank found) (tree_of bank wanted))
IsElabFault bank (ElabFault.NotAProduct t) f = HasTerm bank t × (f ≡ no_product (tree_of bank t))
IsElabFault bank ElabFault.NoSortAbove f = f ≡ nothing_above
IsElabFault bank (ElabFault.CannotInfer place) f = f ≡ cannot_infer place
IsElabFault bank (ElabFault.NotASort t) f = HasTerm bank t × (f ≡ no_sort (tree_of bank t))
IsElabFault bank (ElabFault.ElimForbidden c s) f = HasName bank c × (f ≡ forbidden (text_of bank c) s)
IsElabFault bank (ElabFault.NameInUse x) f = HasName bank x × (f ≡ name_in_use (text_of bank x))
IsElabFault bank ElabFault.StepsOut f = ⊥
IsElabFault bank ElabFault.TooLarge f = f ≡ elab_too_large
IsElabFault bank ElabFault.TooDeep f = f ≡ elab_too_deep
IsElabFault bank ElabFault.Full f = f ≡ full
IsElabFault bank (ElabFault.NotATerm x) f = HasName bank x × (f ≡ not_a_term (text_of bank x))
IsElabFault bank ElabFault.NoMemory f = Unit {0}

-- The work comes to the fault that the refusal tells, whose names and terms lie in the bank, with those ticks left; or the
-- budget is spent, and no tick is left. Memory may end at any time.
abbrev pub Refuses : {A : Type 0} → Terms → ElabFault → (ℕ → Elab A) → (budget left : ℕ) → Type 0
Refuses bank (ElabFault.Unknown x) f b left = HasName bank x × ComesTo f b (failed (unknown (text_of bank x)) left)
Refuses bank (ElabFault.Mismatch found wanted) f b left =
    HasTerm bank found × HasTerm bank wanted × ComesTo f b (failed (found_wanted (tree_of bank found) (tree_of bank wanted)) left)
Refuses bank (ElabFault.NotAProduct t) f b left = HasTerm bank t × ComesTo f b (failed (no_product (tree_of bank t)) left)
Refuses bank ElabFault.NoSortAbove f b left = ComesTo f b (failed nothing_above left)
Refuses bank (ElabFault.CannotInfer place) f b left = ComesTo f b (failed (cannot_infer place) left)
Refuses bank (ElabFault.NotASort t) f b left = HasTerm bank t × ComesTo f b (failed (no_sort (tree_of bank t)) left)
Refuses bank (ElabFault.ElimForbidden c s) f b left = HasName bank c × ComesTo f b (failed (forbidden (text_of bank c) s) left)
Refuses bank (ElabFault.NameInUse x) f b left = HasName bank x × ComesTo f b (failed (name_in_use (text_of bank x)) left)
Refuses bank ElabFault.StepsOut f b left = ComesTo f b steps_out × (left ≡ 0)
Refuses bank ElabFault.TooLarge f b left = ComesTo f b (failed elab_too_large left)
Refuses bank ElabFault.TooDeep f b left = ComesTo f b (failed elab_too_deep left)
Refuses bank ElabFault.Full f b left = ComesTo f b (failed full left)
Refuses bank (ElabFault.NotATerm x) f b left = HasName bank x × ComesTo f b (failed (not_a_term (text_of bank x)) left)
Refuses bank ElabFault.NoMemory f b left = Unit {0}

-- the work comes to the type that was found, or the refusal is true
abbrev pub Finds : Terms → Result TermId ElabFault → (ℕ → Elab Tree) → (budget left : ℕ) → Type 0
Finds bank (Ok t) f b left = HasTerm bank t × ComesTo f b (done (tree_of bank t) left)
Finds bank (Err e) f b left = Refuses bank e f b left

-- a fault of the environment as one of elaboration
abbrev pub declared_refusal : EnvFault → ElabFault
declared_refusal (EnvFault.NameTaken x) = ElabFault.Full
declared_refusal (EnvFault.NotPositive x k) = ElabFault.Full
declared_refusal (EnvFault.NestedUse x k) = ElabFault.Full
declared_refusal (EnvFault.BadResult x) = ElabFault.Full
declared_refusal (EnvFault.ElimForbidden c s) = ElabFault.ElimForbidden c s
declared_refusal EnvFault.TooLarge = ElabFault.Full
declared_refusal EnvFault.TooDeep = ElabFault.Full
declared_refusal EnvFault.NoMemory = ElabFault.NoMemory

-- a fault of the kernel as one of elaboration
abbrev pub kernel_refusal : KernelFault → ElabFault
kernel_refusal (KernelFault.Unbound x) = ElabFault.Unknown x
kernel_refusal (KernelFault.NotAProduct t) = ElabFault.NotAProduct t
kernel_refusal (KernelFault.NotASort t) = ElabFault.NotASort t
kernel_refusal (KernelFault.Mismatch found wanted) = ElabFault.Mismatch found wanted
kernel_refusal KernelFault.NoSortAbove = ElabFault.NoSortAbove
kernel_refusal (KernelFault.HasVariable n) = ElabFault.Full
kernel_refusal KernelFault.StepsOut = ElabFault.StepsOut
kernel_refusal (KernelFault.TooBig x k) = ElabFault.Full
kernel_refusal KernelFault.TooLarge = ElabFault.TooLarge
kernel_refusal KernelFault.TooDeep = ElabFault.TooDeep
kernel_refusal (KernelFault.Env fault) = declared_refusal fault
kernel_refusal KernelFault.NoMemory = ElabFault.NoMemory
