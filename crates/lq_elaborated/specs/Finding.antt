-- What elaboration in a sentence comes to.
use Rattle.std.specs.Prelude.{◌≡◌, ℕ, Result, Ok, Err}
use Rattle.lq_trees.specs.Ticks.{done, ComesTo}
use Rattle.lq_trees.specs.declared.Fit.{Fit}
use Rattle.lq_trees.specs.Size.{fit}
use Rattle.lq_trees.specs.Tree.{Context}
use Rattle.lq_terms.specs.Terms.{Terms, HasTerm, tree_of}
use Rattle.lq_solving.specs.Kept.{StandsIn}
use Rattle.lq_solving.specs.Stores.{Store, read}
use Rattle.lq_solving.proofs.ElabKept.{Grown}
use Rattle.lq_solving.specs.Elaboration.{Found, found}
use Rattle.lq_evars.specs.Places.{Places, store_of, HasStore}
use Rattle.lq_elaborated.specs.declared.terms.Typed.{Typed}
use Rattle.lq_sessions.specs.Sessions.{Work}
use Rattle.lq_causes.specs.declared.stops.Stop.{Stop}
use Rattle.lq_causes.specs.Stopping.{Stops}

-- what was elaborated, over trees, with the store then
abbrev pub found_in : Terms → Places → Typed → Found
found_in bank s e = found (store_of bank s) (tree_of bank e.term) (tree_of bank e.kind)

-- the work comes to the term, its type and the store, or what stops it is told
abbrev pub Finds : Terms → Places → Result Typed Stop → (ℕ → Work Found) → (budget left : ℕ) → Type 0
Finds bank s (Ok e) f b left = ComesTo f b (done (found_in bank s e) left)
Finds bank s (Err stop) f b left = Stops bank stop f b left

-- what was elaborated: a term and a type that stand in a context and keep within the limits as they read, over a store that has grown
pub record IsTyped (bank : Terms) (old : Store) (s : Places) (g : Context) (e : Typed) : Type 0 where
  pub store : HasStore bank s
  pub grown : Grown old (store_of bank s)
  pub term : HasTerm bank e.term
  pub kind : HasTerm bank e.kind
  pub term_stands : StandsIn (store_of bank s) g (tree_of bank e.term)
  pub kind_stands : StandsIn (store_of bank s) g (tree_of bank e.kind)
  pub term_fits : fit (read (store_of bank s) (tree_of bank e.term)) ≡ Fit.Fits
  pub kind_fits : fit (read (store_of bank s) (tree_of bank e.kind)) ≡ Fit.Fits
