-- The calls of elaboration: what is written, what is lent, what is answered.
use Rattle.std.specs.Prelude.{◌≡◌, ℕ, true, false, List, map, Some, Result, Ok, Err}
use Rattle.lq_trees.specs.declared.Fit.{Fit}
use Rattle.lq_trees.specs.Index.{Within}
use Rattle.lq_trees.specs.Size.{fit}
use Rattle.lq_trees.specs.Ticks.{done, ComesTo}
use Rattle.lq_trees.specs.Tree.{Name, Tree, Context, value_of}
use Rattle.lq_ast.specs.Syntax as syntax_tree
use Rattle.lq_ast.specs.Syntax.{bound}
use Rattle.lq_ast.specs.Plain.{plain, plain_binders, joined}
use Rattle.lq_terms.specs.declared.nodes.Hypothesis.{Hypothesis}
use Rattle.lq_terms.specs.declared.nodes.NameId.{NameId}
use Rattle.lq_terms.specs.Terms.{Terms, HasTerm, tree_of}
use Rattle.lq_terms.specs.Contexts.{context_of}
use Rattle.lq_env.specs.declared.environment.Declared.{Declared}
use Rattle.lq_env.specs.Environments.{env_of}
use Rattle.lq_solving.specs.Stores.{Store, read}
use Rattle.lq_solving.specs.Kept.{IsOver, StandsIn}
use Rattle.lq_solving.specs.ElabFaults.{Elab}
use Rattle.lq_solving.specs.Elaboration.{Givens, Site, Found, found, given_term}
use Rattle.lq_solving.proofs.ElabKept.{Grown}
use Rattle.lq_evars.specs.Places.{Places, store_of, HasStore}
use Rattle.lq_typing.specs.declared.faults.ElabFault.{ElabFault}
use Rattle.lq_typing.specs.Refusals.{Refuses}
use Rattle.lq_elab.specs.declared.elaborating.Elaborated.{Elaborated}
use Rattle.lq_elab.specs.declared.elaborating.Written.{Written}
use Rattle.lq_elab.specs.declared.sites.Given.{Given}
use Rattle.lq_elab.specs.States.{givens_of}
use Rattle.lq_elab.specs.Views.{row_node}

-- the term that is written
abbrev pub written_tree : Written → syntax_tree.Surface
written_tree (Written.Term t) = plain t.now
written_tree (Written.Forall groups body) = bound (row_node true) (joined (map plain_binders groups.now)) (plain body.now)
written_tree (Written.Fun groups body) = bound (row_node false) (joined (map plain_binders groups.now)) (plain body.now)

-- where a call elaborates, with a bound on the depth of lower calls
abbrev pub site_at : Terms → List (NameId × Declared) → List Hypothesis → List (NameId × Given) → ℕ → Site
site_at bank ds hs vs n = record { env = env_of bank ds; bound = n; values = givens_of bank vs; outer = context_of bank hs }

-- the Ltac values that are terms have variables of the store alone, and no loose bound variables
abbrev pub ValuesStand : Store → Givens → Type 0
ValuesStand s vs = (x : Name) (t : Tree) → value_of vs x ≡ Some (given_term t) → IsOver s.variables t × Within 0 t

-- the work comes to the term, its type and the store, or the refusal is true
abbrev pub Elaborates : Terms → Places → Result Elaborated ElabFault → (ℕ → Elab Found) → (budget left : ℕ) → Type 0
Elaborates bank s (Ok e) f budget left = ComesTo f budget (done (found (store_of bank s) (tree_of bank e.term) (tree_of bank e.kind)) left)
Elaborates bank s (Err y) f budget left = Refuses bank y f budget left

-- what was elaborated: a term and a type that stand in a context and keep within the limits as they read, over a store that has grown
pub record IsElaborated (bank : Terms) (old : Store) (s : Places) (g : Context) (e : Elaborated) : Type 0 where
  pub store : HasStore bank s
  pub grown : Grown old (store_of bank s)
  pub term : HasTerm bank e.term
  pub kind : HasTerm bank e.kind
  pub term_stands : StandsIn (store_of bank s) g (tree_of bank e.term)
  pub kind_stands : StandsIn (store_of bank s) g (tree_of bank e.kind)
  pub term_fits : fit (read (store_of bank s) (tree_of bank e.term)) ≡ Fit.Fits
  pub kind_fits : fit (read (store_of bank s) (tree_of bank e.kind)) ≡ Fit.Fits
