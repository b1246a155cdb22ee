-- Elaboration as it goes on step by step: what waits for what a part is elaborated to.
use Rattle.std.specs.Prelude.{ℕ, List, [], ◌∷◌, Option, Some, None}
use Rattle.lq_trees.specs.declared.Sort.{Sort as Universe}
use Rattle.lq_trees.specs.Tree.{Name, Tree, Context}
use Rattle.lq_trees.specs.Tree.Tree.{Prod, Lam, Let, App, Sort}
use Rattle.lq_trees.specs.Change.{subst, close}
use Rattle.lq_trees.specs.Ticks.{gives, ◌>>=◌, Outcome, ComesTo}
use Rattle.lq_trees.specs.Fresh.{fresh, under, under_let}
use Rattle.lq_calculus.specs.Typing.{product_sort}
use Rattle.lq_ast.specs.Syntax.{Surface}
use Rattle.lq_solving.specs.Stores.{Store}
use Rattle.lq_solving.specs.ElabFaults.{ElabFault, Elab}
use Rattle.lq_solving.specs.Elaboration.{Site, Found, found, found_sort, bind, against, domain_agrees, rest_wanted, function_found, elaborate}
use Rattle.lq_solving.proofs.ElabSettled.{at}
use Rattle.lq_elab.specs.Arguments.{with_arguments}

-- where a term stands: the binders round it, each with the hypothesis for its variable, and the context
pub record Spot : Type 0 where
  pub binders : List (Name × Name)
  pub context : Context

-- what stands under a binder with a type, and under one with a value too
abbrev pub below : Spot → (binder hypothesis : Name) → Tree → Spot
below l x y A = record { binders = bind x y l.binders; context = under l.context y A }

abbrev pub below_let : Spot → (binder hypothesis : Name) → (value kind : Tree) → Spot
below_let l x y v A = record { binders = bind x y l.binders; context = under_let l.context y v A }

-- What waits for a part: a product for its domain (binder, rest) and for its rest (binder, hypothesis, domain, its sort); a function
-- for its domain (with the parts of the product that is wanted) and for its rest; a local definition for its type (value, rest), its
-- value (the type if one is written) and its rest (value, type); an application for its function (the argument and those that follow)
-- and for an argument (the function, the rest of its product, the arguments that follow); a cast for its type and for its term.
pub data Part : Type 0 where
  product_domain : Name → Surface → Part
  product_rest : (binder hypothesis : Name) → Tree → Universe → Part
  function_domain : Name → Surface → Option (Tree × Tree) → Part
  function_rest : (binder hypothesis : Name) → Tree → Part
  definition_kind : Name → (value rest : Surface) → Part
  definition_value : Name → Option Tree → Surface → Part
  definition_rest : (binder hypothesis : Name) → (value kind : Tree) → Part
  applied_function : Surface → List Surface → Part
  applied_argument : (function rest : Tree) → List Surface → Part
  cast_kind : Surface → Part
  cast_term : Tree → Part

-- a part that waits, where the whole stands, and the type that is wanted of the whole
pub record Waiting : Type 0 where
  pub spot : Spot
  pub wanted : Option Tree
  pub part : Part

abbrev pub waiting : Spot → Option Tree → Part → Waiting
waiting l w p = record { spot = l; wanted = w; part = p }

-- the type that is written, else the one that was found
unfoldable pub kind_or : Option Tree → Found → Tree
kind_or (Some A) f = A
kind_or None f = f.kind

-- what is compared with the wanted type behind an abstraction: nothing where a product was wanted
unfoldable pub left_wanted : Option Tree → Option (Tree × Tree) → Option Tree
left_wanted w None = w
left_wanted w (Some p) = None

-- a product, a function and a local definition with their types, from what their rests were found to be
abbrev pub product_of : (binder hypothesis : Name) → Tree → (s1 s2 : Universe) → Found → Found
product_of x y A s1 s2 h = found h.store (Prod x A (close y h.term)) (Sort (product_sort s1 s2))

abbrev pub function_of : (binder hypothesis : Name) → Tree → Found → Found
function_of x y A h = found h.store (Lam x A (close y h.term)) (Prod x A (close y h.kind))

abbrev pub definition_of : (binder hypothesis : Name) → (value kind : Tree) → Found → Found
definition_of x y v A h = found h.store (Let x v A (close y h.term)) (subst v (close y h.kind))

abbrev pub application_of : (function rest : Tree) → Found → Found
application_of f B h = found h.store (App f h.term) (subst h.term B)

module _ (e : Site) where
  -- the same with the arguments that follow
  unfoldable pub with_more : Spot → List Surface → Option Tree → Found → Elab Found
  with_more l [] w f = against e l.context w f
  with_more l (c ∷ cs) w f = against e l.context None f >>= with_arguments e l.binders l.context c cs w

  -- what is left of the whole, once the part is elaborated
  unfoldable pub resumed : Spot → Option Tree → Part → Found → Elab Found
  resumed l w (product_domain x B) f =
      found_sort e l.context f >>= λ s1.
      elaborate e (bind x (fresh l.context x) l.binders) (under l.context (fresh l.context x) f.term) f.store B None >>= λ h.
      found_sort e (under l.context (fresh l.context x) f.term) h >>= λ s2.
      against e l.context w (product_of x (fresh l.context x) f.term s1 s2 h)
  resumed l w (product_rest x y A s1) h =
      found_sort e (under l.context y A) h >>= λ s2. against e l.context w (product_of x y A s1 s2 h)
  resumed l w (function_domain x t p) f =
      found_sort e l.context f >>= λ s1.
      domain_agrees e l.context f p >>= λ s2.
      elaborate e (bind x (fresh l.context x) l.binders) (under l.context (fresh l.context x) f.term) s2 t (rest_wanted (fresh l.context x) p) >>= λ h.
      function_found e l.context w p (function_of x (fresh l.context x) f.term h)
  resumed l w (function_rest x y A) h = against e l.context w (function_of x y A h)
  resumed l w (definition_kind x v t) f =
      found_sort e l.context f >>= λ s1.
      elaborate e l.binders l.context f.store v (Some f.term) >>= λ k.
      elaborate e (bind x (fresh l.context x) l.binders) (under_let l.context (fresh l.context x) k.term f.term) k.store t None >>= λ h.
      against e l.context w (definition_of x (fresh l.context x) k.term f.term h)
  resumed l w (definition_value x A t) k =
      elaborate e (bind x (fresh l.context x) l.binders) (under_let l.context (fresh l.context x) k.term (kind_or A k)) k.store t None >>= λ h.
      against e l.context w (definition_of x (fresh l.context x) k.term (kind_or A k) h)
  resumed l w (definition_rest x y v A) h = against e l.context w (definition_of x y v A h)
  resumed l w (applied_function a as_) f = with_arguments e l.binders l.context a as_ w f
  resumed l w (applied_argument f B as_) h = with_more l as_ w (application_of f B h)
  resumed l w (cast_kind t) f =
      found_sort e l.context f >>= λ s1.
      elaborate e l.binders l.context f.store t (Some f.term) >>= λ h.
      against e l.context w (found h.store h.term f.term)
  resumed l w (cast_term A) h = against e l.context w (found h.store h.term A)

  -- what all that waits makes of what was found, the nearest first
  unfoldable pub go_on : List Waiting → Found → Elab Found
  go_on [] f = gives f
  go_on (v ∷ vs) f = resumed v.spot v.wanted v.part f >>= go_on vs

-- the work that is left once something was found, and where a term is to be elaborated first
abbrev pub found_work : Site → List Waiting → Found → ℕ → Elab Found
found_work e vs f n = go_on (at n e) vs f

abbrev pub asked_work : Site → List Waiting → Spot → Store → Surface → Option Tree → ℕ → Elab Found
asked_work e vs l s t w n = elaborate (at n e) l.binders l.context s t w >>= go_on (at n e) vs

-- what comes of the rest leads to what comes of the whole
abbrev pub Leads : (whole rest : ℕ → Elab Found) → (budget left : ℕ) → Type 0
Leads f g budget left = (o : Outcome ElabFault Found) → ComesTo g left o → ComesTo f budget o

-- what was found is held against the wanted type, and what waits goes on
abbrev pub held_work : Site → List Waiting → Context → Option Tree → Found → ℕ → Elab Found
held_work e vs g w x n = against (at n e) g w x >>= λ z. found_work e vs z n
