-- Types that were found, as read, and what the steps of inference over a store tell of them.
use Rattle.std.specs.Prelude.{◌≡◌, ℕ, Result, Ok, Err}
use Rattle.lq_trees.specs.declared.Fit.{Fit}
use Rattle.lq_trees.specs.Tree.{Tree, Context}
use Rattle.lq_trees.specs.Size.{fit}
use Rattle.lq_trees.specs.declared.Sort.{Sort as Universe}
use Rattle.lq_trees.specs.Ticks.{◌>>=◌, done, ComesTo}
use Rattle.lq_terms.specs.declared.nodes.TermId.{TermId}
use Rattle.lq_terms.specs.Terms.{Terms, HasTerm, tree_of}
use Rattle.lq_calculus.specs.Declarations.{Env as Environment}
use Rattle.lq_calculus.specs.Checking.{Kernel, as_sort, as_product, needed_form}
use Rattle.lq_kernel.specs.declared.faults.KernelFault.{KernelFault}
use Rattle.lq_kernel.specs.Answers.{Refuses}
use Rattle.lq_solving.specs.Stores.{Store, read}
use Rattle.lq_solving.specs.Kept.{StandsIn}
use Rattle.lq_typing.specs.Standing.{RestStands}

-- a term of the bank for a type as read that stands in a context
pub record IsKind (bank : Terms) (s : Store) (g : Context) (t : TermId) : Type 0 where
  pub has : HasTerm bank t
  pub stands : StandsIn s g (tree_of bank t)
  pub reads : read s (tree_of bank t) ≡ tree_of bank t

-- the same of what stands below one binder
pub record IsRest (bank : Terms) (s : Store) (g : Context) (t : TermId) : Type 0 where
  pub has : HasTerm bank t
  pub stands : RestStands s g (tree_of bank t)
  pub reads : read s (tree_of bank t) ≡ tree_of bank t

-- the work comes to a type that stands in a context, as read and within the limits, or the refusal is true
abbrev pub Kinds : Terms → Result TermId KernelFault → Store → Context → (ℕ → Kernel Tree) → (budget left : ℕ) → Type 0
Kinds bank (Ok t) s g f b left = IsKind bank s g t × (fit (tree_of bank t) ≡ Fit.Fits) × ComesTo f b (done (tree_of bank t) left)
Kinds bank (Err e) s g f b left = Refuses bank e f b left

-- the work comes to the domain and the rest of a product, both as read, or the refusal is true
abbrev pub Splits : Terms → Result (TermId × TermId) KernelFault → Store → Context → (ℕ → Kernel (Tree × Tree)) → (budget left : ℕ) → Type 0
Splits bank (Ok p) s g f b left = IsKind bank s g p.0 × IsRest bank s g p.1 × ComesTo f b (done (tree_of bank p.0, tree_of bank p.1) left)
Splits bank (Err e) s g f b left = Refuses bank e f b left

-- the work comes to a type within the limits, or the refusal is true
abbrev pub Comes : Terms → Result TermId KernelFault → (ℕ → Kernel Tree) → (budget left : ℕ) → Type 0
Comes bank (Ok t) f b left = HasTerm bank t × (fit (tree_of bank t) ≡ Fit.Fits) × ComesTo f b (done (tree_of bank t) left)
Comes bank (Err e) f b left = Refuses bank e f b left

-- the sort, and the product, that a type must be
abbrev pub needed_sort : Environment → ℕ → Context → Tree → Kernel Universe
needed_sort E n g T = needed_form E n g T >>= as_sort

abbrev pub needed_product : Environment → ℕ → Context → Tree → Kernel (Tree × Tree)
needed_product E n g T = needed_form E n g T >>= as_product
