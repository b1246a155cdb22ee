-- `exists` by its parts, by places of a bank.
use Rattle.std.specs.Prelude.{true, List, [], slice_get, Some}
use Rattle.lq_trees.specs.Tree.{Tree, Context}
use Rattle.lq_trees.specs.Tree.Tree.{App, Prod}
use Rattle.lq_trees.specs.Change.{subst}
use Rattle.lq_trees.specs.Ticks.{gives, ◌>>=◌}
use Rattle.lq_ast.specs.Syntax.{Surface}
use Rattle.lq_terms.specs.declared.nodes.Hypothesis.{Hypothesis}
use Rattle.lq_terms.specs.declared.nodes.TermId.{TermId}
use Rattle.lq_terms.specs.Terms.{Terms, HasTerm, tree_of}
use Rattle.lq_terms.specs.Contexts.{context_of}
use Rattle.lq_solving.specs.Stores.{names_in}
use Rattle.lq_solving.specs.Kept.{StandsIn}
use Rattle.lq_solving.specs.Elaboration.{Found, found}
use Rattle.lq_solving.proofs.Good.{IsGood}
use Rattle.lq_evars.specs.Places.{Places, store_of}
use Rattle.lq_tactics.specs.Rows.{Doing, Scene, Done, term_of}
use Rattle.lq_tactics.specs.Applying.{Inductive as TreeInductive, goal_inductive, has_number, constructor_found, apply_found}
use Rattle.lq_tactics.specs.Primitives.{exists_found}
use Rattle.lq_prims.specs.declared.inductives.Typed.{Typed}
use Rattle.lq_prims.specs.Making.{HasIn}

-- the only constructor of an inductive type, at the type's parameters, with its type there
unfoldable pub single_work : Scene → TreeInductive → Doing Found
single_work c i = has_number 1 i >>= λ j. constructor_found c j 0 (slice_get j.family.constructors 0)

-- the only constructor of the goal's type
unfoldable pub only_work : Scene → Doing Found
only_work c = goal_inductive c >>= single_work c

-- a function applied to a written term of its domain, with what is left of its type
unfoldable pub argument_work : Scene → Surface → (function domain rest : Tree) → Doing Found
argument_work c t f A B = term_of c t (Some A) >>= λ h. gives (found h.store (App f h.term) (subst h.term B))

-- what a function builds that is applied to a written term, and then to the premises that are left
unfoldable pub exists_work : Scene → Surface → Found → Doing Done
exists_work c t f = exists_found c t f f.kind >>= apply_found c true

-- a term stands in a context, and its type is as it reads there
pub record IsFunction (bank : Terms) (s : Places) (g : Context) (f : Typed) : Type 0 where
  pub term : HasTerm bank f.term
  pub kind : HasTerm bank f.kind
  pub stands : StandsIn (store_of bank s) g (tree_of bank f.term)
  pub good : IsGood (store_of bank s).variables (store_of bank s).values (names_in g) 0 (tree_of bank f.kind)

-- a function stands in a context; its type is a product, by domain and rest, that is as it reads there
pub record TakesArgument (bank : Terms) (s : Places) (hs : List Hypothesis) (f A B : TermId) : Type 0 where
  pub function : HasIn bank s hs f
  pub domain : HasTerm bank A
  pub rest : HasTerm bank B
  pub good : IsGood (store_of bank s).variables (store_of bank s).values (names_in (context_of bank hs)) 0 (Prod [] (tree_of bank A) (tree_of bank B))
