-- Weak head forms that are sorts or products.
use Rattle.std.specs.Prelude.{◌≡◌, Option, Some, None, Result, Ok, Err}
use Rattle.lq_trees.specs.declared.Sort.{Sort as Universe}
use Rattle.lq_trees.specs.Tree.{Name, Tree}
use Rattle.lq_trees.specs.Ticks.{gives, fails}
use Rattle.lq_terms.specs.declared.nodes.TermId.{TermId}
use Rattle.lq_terms.specs.Terms.{Terms, HasTerm, tree_of}
use Rattle.lq_reduce.specs.declared.faults.ReduceFault.{ReduceFault}
use Rattle.lq_solving.specs.ElabFaults.{no_sort, no_product}
use Rattle.lq_solving.specs.Elaboration.{sort_form, product_form, as_wanted}
use Rattle.lq_typing.specs.declared.faults.ElabFault.{ElabFault}

-- a fault of reduction as one of elaboration
abbrev pub elab_fault : ReduceFault → ElabFault
elab_fault ReduceFault.StepsOut = ElabFault.StepsOut
elab_fault ReduceFault.TooLarge = ElabFault.TooLarge
elab_fault ReduceFault.TooDeep = ElabFault.TooDeep
elab_fault ReduceFault.NoMemory = ElabFault.NoMemory

-- the sort that the form is, or the fault that it is none
abbrev pub IsSortOr : Terms → Result Universe ElabFault → TermId → Type 0
IsSortOr bank (Ok u) t = sort_form (tree_of bank t) ≡ gives u
IsSortOr bank (Err e) t = (e ≡ ElabFault.NotASort t) × (sort_form (tree_of bank t) ≡ fails (no_sort (tree_of bank t)))

-- the parts of the product that the form is
pub record HasProduct (bank : Terms) (p : TermId × TermId) (t : TermId) : Type 0 where
  pub binder : Name
  pub domain : HasTerm bank p.0
  pub rest : HasTerm bank p.1
  pub is : tree_of bank t ≡ Tree.Prod binder (tree_of bank p.0) (tree_of bank p.1)

-- those, or the fault that it is none
abbrev pub IsProductOr : Terms → Result (TermId × TermId) ElabFault → TermId → Type 0
IsProductOr bank (Ok p) t = HasProduct bank p t
IsProductOr bank (Err e) t = (e ≡ ElabFault.NotAProduct t) × (product_form (tree_of bank t) ≡ fails (no_product (tree_of bank t)))

-- those, if it is one
abbrev pub IsProductIf : Terms → Option (TermId × TermId) → TermId → Type 0
IsProductIf bank (Some p) t = HasProduct bank p t
IsProductIf bank None t = as_wanted (tree_of bank t) ≡ None
