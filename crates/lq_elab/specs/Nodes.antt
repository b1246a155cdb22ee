-- What is left of a node of a term once its tick is paid.
use Rattle.std.specs.Prelude.{ℕ, Bool, true, false, List, [], ◌∷◌, length, map, Option, Some, None}
use Rattle.lq_trees.specs.declared.Sort.{Sort as Universe}
use Rattle.lq_trees.specs.Tree.{Name, Tree}
use Rattle.lq_trees.specs.Tree.Tree.{Sort}
use Rattle.lq_trees.specs.Fresh.{fresh, opened}
use Rattle.lq_trees.specs.Ticks.{gives, fails, ◌>>=◌}
use Rattle.lq_calculus.specs.Checking.{sort_above}
use Rattle.lq_ast.specs.Syntax.{Surface, Domain, Written, Missing}
use Rattle.lq_ast.specs.Plain.{plain, plain_domain, name_of}
use Rattle.lq_solving.specs.Stores.{Store}
use Rattle.lq_solving.specs.ElabFaults.{Elab, by_kernel, cannot_infer, unknown}
use Rattle.lq_solving.specs.Elaboration.{Site, Found, found, wanted_product, name_found, blank_found, named_found}
use Rattle.lq_solving.proofs.ElabSettled.{at}
use Rattle.lq_elab.specs.declared.views.View.{View}
use Rattle.lq_elab.specs.Arguments.{ticks}
use Rattle.lq_elab.specs.Views.{head_domain, row_tree}
use Rattle.lq_elab.specs.Waiting.{Spot, below, Waiting, waiting, product_domain, function_domain, function_rest, definition_kind, definition_value}
use Rattle.lq_elab.specs.Waiting.{applied_function, cast_kind, found_work, asked_work, held_work}

-- a new variable comes next
abbrev pub made_next : Site → List Waiting → Elab Found → ℕ → Elab Found
made_next e vs r n = r >>= λ z. found_work e vs z n

module _ (e : Site) (vs : List Waiting) (l : Spot) (s : Store) (w : Option Tree) where
  -- the rest of a function whose domain is that of the product that is wanted
  abbrev pub bare_work : Name → (place : ℕ) → Surface → Option (Tree × Tree) → ℕ → Elab Found
  bare_work x k t None n = fails (cannot_infer k)
  bare_work x k t (Some q) n =
      asked_work e (waiting l None (function_rest x (fresh l.context x) q.0) ∷ vs) (below l x (fresh l.context x) q.0) s t (Some (opened (fresh l.context x) q.1)) n

  -- a product or a function
  abbrev pub head_work : (is_product : Bool) → Name → Domain → Surface → ℕ → Elab Found
  head_work true x (Written A) t n = asked_work e (waiting l w (product_domain x t) ∷ vs) l s A None n
  head_work true x (Missing k) t n = fails (cannot_infer k)
  head_work false x (Written A) t n = wanted_product (at n e) l.context s w >>= λ p. asked_work e (waiting l w (function_domain x t p) ∷ vs) l s A None n
  head_work false x (Missing k) t n = wanted_product (at n e) l.context s w >>= λ p. bare_work x k t p n

  -- a local definition
  abbrev pub definition_work : Name → Domain → (value rest : Surface) → ℕ → Elab Found
  definition_work x (Written A) v t n = asked_work e (waiting l w (definition_kind x v t) ∷ vs) l s A None n
  definition_work x (Missing k) v t n = asked_work e (waiting l w (definition_value x None t) ∷ vs) l s v None n

  -- what was found of a leaf is held against the wanted type
  abbrev pub held_leaf : (ℕ → Elab Found) → ℕ → Elab Found
  held_leaf x n = x n >>= λ z. held_work e vs l.context w z n

  -- a sort with the one above it
  abbrev pub sort_found : Universe → Elab Found
  sort_found u = by_kernel (sort_above u) >>= λ A. gives (found s (Sort u) A)

  -- a node
  abbrev pub node_work : View → ℕ → Elab Found
  node_work (View.Binder h) n = head_work h.rest.is_product (name_of h.binder.now.name) (head_domain h) (row_tree h.rest) n
  node_work (View.LetIn x d v t) n = definition_work (name_of x.now) (plain_domain d.now) (plain v.now) (plain t.now) n
  node_work (View.Arrow A B) n = asked_work e (waiting l w (product_domain [] (plain B.now)) ∷ vs) l s (plain A.now) None n
  node_work (View.Apply f a as_) n = ticks (length as_.now) (asked_work e (waiting l w (applied_function (plain a.now) (map plain as_.now)) ∷ vs) l s (plain f.now) None n)
  node_work (View.Ident x) n = held_leaf (λ m. name_found (at m e) l.binders l.context s x.now) n
  node_work (View.Blank p) n = blank_found l.context s p w >>= λ z. found_work e vs z n
  node_work View.PropSort n = held_leaf (λ m. sort_found Universe.Base) n
  node_work (View.TypeSort i) n = held_leaf (λ m. sort_found (Universe.Level i)) n
  node_work (View.Cast t A) n = asked_work e (waiting l w (cast_kind (plain t.now)) ∷ vs) l s (plain A.now) None n
  node_work (View.Meta x) n = fails (unknown x.now)
  node_work (View.NewVar x p) n = named_found l.context s x.now p w >>= λ z. found_work e vs z n

-- the name that a node has: of what it binds, or of itself; the empty name where it has none
abbrev pub node_name : View → Name
node_name (View.Binder h) = name_of h.binder.now.name
node_name (View.LetIn x d v t) = name_of x.now
node_name (View.Arrow A B) = []
node_name (View.Apply f a as_) = []
node_name (View.Ident x) = x.now
node_name (View.Blank p) = []
node_name View.PropSort = []
node_name (View.TypeSort i) = []
node_name (View.Cast t A) = []
node_name (View.Meta x) = x.now
node_name (View.NewVar x p) = x.now
