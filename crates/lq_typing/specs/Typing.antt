-- Inference as it goes on step by step: what waits for the type of a part. Terms and contexts are as read.
use Rattle.std.specs.Prelude.{ℕ, List, [], ◌∷◌}
use Rattle.lq_trees.specs.declared.Sort.{Sort as Universe}
use Rattle.lq_trees.specs.Tree.{Name, Tree, Context}
use Rattle.lq_trees.specs.Tree.Tree.{Sort, Prod}
use Rattle.lq_trees.specs.Change.{subst, close}
use Rattle.lq_trees.specs.Fresh.{fresh, opened, under, under_let}
use Rattle.lq_trees.specs.Ticks.{gives, ◌>>=◌, Outcome, ComesTo}
use Rattle.lq_calculus.specs.Declarations.{Env}
use Rattle.lq_calculus.specs.Typing.{product_sort}
use Rattle.lq_calculus.specs.Checking.{KernelFault, Kernel, fitting, as_sort, as_product, needed_form, matching}
use Rattle.lq_inference.specs.Inference.{Open, matching_by, infer_by}

-- what waits for the type of a part: of a product's domain (binder, domain, rest), of its rest under one hypothesis more;
-- the same of a function, and of a local definition (binder, value, type, rest), whose value stands between; of a function
-- that is applied, and of its argument (argument, domain, rest of the product)
pub data Part : Type 0 where
  product_domain : Name → Tree → Tree → Part
  product_rest : Universe → Part
  function_domain : Name → Tree → Tree → Part
  function_rest : Name → Name → Tree → Part
  definition_kind : Name → Tree → Tree → Tree → Part
  definition_value : Name → Tree → Tree → Tree → Part
  definition_rest : Name → Tree → Part
  applied_function : Tree → Part
  applied_argument : Tree → Tree → Tree → Part

-- a context without its last hypothesis
unfoldable pub shorter : Context → Context
shorter [] = []
shorter (h ∷ []) = []
shorter (h ∷ i ∷ g) = h ∷ shorter (i ∷ g)

-- the context in which the whole of a part stands, by that of the part
unfoldable pub outside : Part → Context → Context
outside (product_domain x A B) g = g
outside (product_rest s) g = shorter g
outside (function_domain x A t) g = g
outside (function_rest x y A) g = shorter g
outside (definition_kind x v A t) g = g
outside (definition_value x v A t) g = g
outside (definition_rest y v) g = shorter g
outside (applied_function a) g = g
outside (applied_argument a D R) g = g

module _ (o : Open) (env : Env) (n : ℕ) where
  -- what is left of a node's inference, once the type of the part is there
  unfoldable pub resumed : Part → Context → Tree → Kernel Tree
  resumed (product_domain x A B) g K =
      needed_form env n g K >>= as_sort >>= λ s1.
      infer_by o env n (under g (fresh g x) A) (opened (fresh g x) B) >>= λ L.
      needed_form env n (under g (fresh g x) A) L >>= as_sort >>= λ s2.
      gives (Sort (product_sort s1 s2))
  resumed (product_rest s1) g L = needed_form env n g L >>= as_sort >>= λ s2. gives (Sort (product_sort s1 s2))
  resumed (function_domain x A t) g K =
      needed_form env n g K >>= as_sort >>= λ s.
      infer_by o env n (under g (fresh g x) A) (opened (fresh g x) t) >>= λ B.
      fitting (Prod x A (close (fresh g x) B))
  resumed (function_rest x y A) g B = fitting (Prod x A (close y B))
  resumed (definition_kind x v A t) g K =
      needed_form env n g K >>= as_sort >>= λ s.
      infer_by o env n g v >>= λ V. matching_by o env n g V A >>= λ ok.
      infer_by o env n (under_let g (fresh g x) v A) (opened (fresh g x) t) >>= λ B.
      fitting (subst v (close (fresh g x) B))
  resumed (definition_value x v A t) g V =
      matching_by o env n g V A >>= λ ok.
      infer_by o env n (under_let g (fresh g x) v A) (opened (fresh g x) t) >>= λ B.
      fitting (subst v (close (fresh g x) B))
  resumed (definition_rest y v) g B = fitting (subst v (close y B))
  resumed (applied_function a) g F =
      needed_form env n g F >>= as_product >>= λ p.
      infer_by o env n g a >>= λ A. matching env n g A p.0 >>= λ ok.
      fitting (subst a p.1)
  resumed (applied_argument a D R) g A = matching env n g A D >>= λ ok. fitting (subst a R)

  -- what all that waits makes of a type, the nearest first
  unfoldable pub go_on : List Part → Context → Tree → Kernel Tree
  go_on [] g T = gives T
  go_on (w ∷ ws) g T = resumed w g T >>= go_on ws (outside w g)

-- the work that is left once there is a type, and where a term's type is to be found first
abbrev pub typed_work : Open → Env → List Part → Context → Tree → ℕ → Kernel Tree
typed_work o env ws g T n = go_on o env n ws g T

abbrev pub asked_work : Open → Env → List Part → Context → Tree → ℕ → Kernel Tree
asked_work o env ws g t n = infer_by o env n g t >>= go_on o env n ws g

-- what comes of the rest leads to what comes of the whole
abbrev pub Leads : (whole rest : ℕ → Kernel Tree) → (budget left : ℕ) → Type 0
Leads f g budget left = (o : Outcome KernelFault Tree) → ComesTo g left o → ComesTo f budget o
