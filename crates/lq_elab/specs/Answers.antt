-- What calls on the way answer, by the work that the definition gives.
use Rattle.std.specs.Prelude.{ℕ, Result, Ok, Err}
use Rattle.lq_trees.specs.Tree.{Tree, Context}
use Rattle.lq_trees.specs.Ticks.{gives, ◌>>=◌, done, ComesTo}
use Rattle.lq_calculus.specs.Checking.{Kernel}
use Rattle.lq_terms.specs.Terms.{Terms, tree_of}
use Rattle.lq_solving.specs.Stores.{Store}
use Rattle.lq_solving.specs.ElabFaults.{Elab, by_kernel}
use Rattle.lq_solving.specs.Elaboration.{Site, found}
use Rattle.lq_solving.specs.Elaboration as tree
use Rattle.lq_evars.specs.Places.{Places, store_of}
use Rattle.lq_typing.specs.declared.faults.ElabFault.{ElabFault}
use Rattle.lq_typing.specs.Refusals.{Refuses}
use Rattle.lq_elab.specs.declared.finding.Found.{Found}

-- the work comes to what the answer stands for, or the refusal is true
abbrev pub Comes : {C A : Type 0} → Terms → (C → A) → Result C ElabFault → (ℕ → Elab A) → (budget left : ℕ) → Type 0
Comes bank value (Ok c) f b left = ComesTo f b (done (value c) left)
Comes bank value (Err e) f b left = Refuses bank e f b left

-- what was found, with the store then
abbrev pub found_of : Terms → Places → Found → tree.Found
found_of bank s f = found (store_of bank s) (tree_of bank f.term) (tree_of bank f.kind)

-- the product that a type's weak head form must be
abbrev pub product_found : Site → Context → Store → Tree → Elab (Tree × Tree)
product_found e g s K = tree.form_of e g s K >>= tree.product_form

-- a leaf with the type that the kernel finds
abbrev pub leaf_work : Kernel Tree → Store → Tree → Elab tree.Found
leaf_work k s T = by_kernel k >>= λ K. gives (found s T K)
