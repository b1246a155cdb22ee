-- What the functions of inference tell, by what those that they call tell.
use Rattle.std.proofs.Common.{◌≡◌, ◌∙◌, ◌+◌, ℕ, suc, refl, sym, ap, subst, List, [], ◌∷◌, ◌++◌, Some, None, Result, Ok}
use Rattle.std.specs.Result.{IsErrAnd}
use Rattle.lq_trees.specs.declared.Sort.{Sort as Universe}
use Rattle.lq_trees.specs.Tree.{Name, Tree, Trees, Context}
use Rattle.lq_trees.specs.Tree.Tree.{Rel, Var, Sort, Prod, Lam, Let, App, Const, Ind, Ctor, Elim, Evar}
use Rattle.lq_trees.specs.Change.{close}
use Rattle.lq_trees.specs.Change.{subst as put_in}
use Rattle.lq_trees.specs.Index.{Within}
use Rattle.lq_trees.specs.Size.{size}
use Rattle.lq_trees.specs.Fresh.{fresh, opened, under, under_let}
use Rattle.lq_trees.specs.Ticks.{gives, tick, ◌>>=◌, done, steps_out, ComesTo}
use Rattle.lq_trees.proofs.TickLaws.{bind_bind}
use Rattle.lq_trees.proofs.Outcomes.{comes_gives, comes_out}
use Rattle.lq_trees.proofs.Reach.{within-subst, within-close}
use Rattle.lq_terms.specs.declared.nodes.TermId.{TermId}
use Rattle.lq_terms.specs.declared.nodes.Node.{Node}
use Rattle.lq_terms.specs.Terms.{Terms, IsTerm, node_tree, tree_of, trees_by}
use Rattle.lq_calculus.specs.Declarations.{Env as Environment}
use Rattle.lq_calculus.specs.Typing.{product_sort}
use Rattle.lq_calculus.specs.Checking.{Kernel, fitting, as_sort, as_product, needed_form, matching}
use Rattle.lq_inference.specs.Inference.{Open, matching_by, infer_by}
use Rattle.lq_kernel.specs.declared.faults.KernelFault.{KernelFault}
use Rattle.lq_kernel.specs.Answers.{Refuses, Checks}
use Rattle.lq_kernel.specs.Steps.{IsType, Types, Sorts, Products, Fitted, IsUnknown, sort_by, check_by, written_by, product_of, behind, inside_of}
use Rattle.lq_kernel.proofs.Goes.{Goes, goes_then, goes_on, goes_same, goes_tick, refuses_goes, refuses_first, types_goes, sorts_goes, checks_goes, products_goes, err_out}
use Rattle.lq_kernel.proofs.FormLaws.{fitted_types}
use Rattle.lq_kernel.proofs.Trees.{size-opened, within-product}

-- the sort of a term, the product of a function's type, the check of a term
module _ (o : Open) (E : Environment) (G : Context) (T : Tree) (bank : Terms) (b left : ℕ) where
  pub sorts_stop : (r : Result Universe KernelFault) (e : KernelFault) → IsErrAnd r (λ y. y ≡ e) → Refuses bank e (λ n. infer_by o E n G T) b left → Sorts bank r (λ n. sort_by o E n G T) b left
  unfolding sort_by
  sorts_stop r e i h = err_out (λ z. Sorts bank z (λ n. sort_by o E n G T) b left) r e i (refuses_first bank e (λ n. infer_by o E n G T) (λ K n. needed_form E n G K >>= as_sort) b left h)

  sort_then : (K : Tree) (c : ℕ) → ComesTo (λ n. infer_by o E n G T) b (done K c) → Goes Universe (λ n. sort_by o E n G T) b (λ n. needed_form E n G K >>= as_sort) c
  unfolding sort_by
  sort_then K c h = goes_then (λ n. infer_by o E n G T) (λ K n. needed_form E n G K >>= as_sort) b K c h

  pub sorts_form_stop : (K : Tree) (c : ℕ) (r : Result Universe KernelFault) (e : KernelFault) → IsErrAnd r (λ y. y ≡ e) → ComesTo (λ n. infer_by o E n G T) b (done K c) → Refuses bank e (λ n. needed_form E n G K) c left → Sorts bank r (λ n. sort_by o E n G T) b left
  sorts_form_stop K c r e i h k =
      err_out (λ z. Sorts bank z (λ n. sort_by o E n G T) b left) r e i
      (refuses_goes bank e (λ n. sort_by o E n G T) b (λ n. needed_form E n G K >>= as_sort) c left (sort_then K c h) (refuses_first bank e (λ n. needed_form E n G K) (λ x n. as_sort x) c left k))

  pub sorts_end : (K H : Tree) (c : ℕ) (r : Result Universe KernelFault) → ComesTo (λ n. infer_by o E n G T) b (done K c) → ComesTo (λ n. needed_form E n G K) c (done H left) → Sorts bank r (λ n. as_sort H) left left → Sorts bank r (λ n. sort_by o E n G T) b left
  sorts_end K H c r h k m =
      sorts_goes bank r (λ n. sort_by o E n G T) b (λ n. needed_form E n G K >>= as_sort) c left (sort_then K c h)
      (sorts_goes bank r (λ n. needed_form E n G K >>= as_sort) c (λ n. as_sort H) left left (goes_then (λ n. needed_form E n G K) (λ x n. as_sort x) c H left k) m)

  pub products_stop : (r : Result (TermId × TermId) KernelFault) (e : KernelFault) → IsErrAnd r (λ y. y ≡ e) → Refuses bank e (λ n. infer_by o E n G T) b left → Products bank r (λ n. product_of o E n G T) b left
  unfolding product_of
  products_stop r e i h = err_out (λ z. Products bank z (λ n. product_of o E n G T) b left) r e i (refuses_first bank e (λ n. infer_by o E n G T) (λ K n. needed_form E n G K >>= as_product) b left h)

  product_then : (K : Tree) (c : ℕ) → ComesTo (λ n. infer_by o E n G T) b (done K c) → Goes (Tree × Tree) (λ n. product_of o E n G T) b (λ n. needed_form E n G K >>= as_product) c
  unfolding product_of
  product_then K c h = goes_then (λ n. infer_by o E n G T) (λ K n. needed_form E n G K >>= as_product) b K c h

  pub products_form_stop : (K : Tree) (c : ℕ) (r : Result (TermId × TermId) KernelFault) (e : KernelFault) → IsErrAnd r (λ y. y ≡ e) → ComesTo (λ n. infer_by o E n G T) b (done K c) → Refuses bank e (λ n. needed_form E n G K) c left → Products bank r (λ n. product_of o E n G T) b left
  products_form_stop K c r e i h k =
      err_out (λ z. Products bank z (λ n. product_of o E n G T) b left) r e i
      (refuses_goes bank e (λ n. product_of o E n G T) b (λ n. needed_form E n G K >>= as_product) c left (product_then K c h) (refuses_first bank e (λ n. needed_form E n G K) (λ x n. as_product x) c left k))

  pub products_end : (K H : Tree) (c : ℕ) (r : Result (TermId × TermId) KernelFault) → ComesTo (λ n. infer_by o E n G T) b (done K c) → ComesTo (λ n. needed_form E n G K) c (done H left) → Products bank r (λ n. as_product H) left left → Products bank r (λ n. product_of o E n G T) b left
  products_end K H c r h k m =
      products_goes bank r (λ n. product_of o E n G T) b (λ n. needed_form E n G K >>= as_product) c left (product_then K c h)
      (products_goes bank r (λ n. needed_form E n G K >>= as_product) c (λ n. as_product H) left left (goes_then (λ n. needed_form E n G K) (λ x n. as_product x) c H left k) m)

  pub checks_stop : (U : Tree) (r : Result (Unit {0}) KernelFault) (e : KernelFault) → IsErrAnd r (λ y. y ≡ e) → Refuses bank e (λ n. infer_by o E n G T) b left → Checks bank r (λ n. check_by o E n G T U) b left
  unfolding check_by
  checks_stop U r e i h = err_out (λ z. Checks bank z (λ n. check_by o E n G T U) b left) r e i (refuses_first bank e (λ n. infer_by o E n G T) (λ B n. matching E n G B U) b left h)

  pub checks_end : (U B : Tree) (c : ℕ) (r : Result (Unit {0}) KernelFault) → ComesTo (λ n. infer_by o E n G T) b (done B c) → Checks bank r (λ n. matching E n G B U) c left → Checks bank r (λ n. check_by o E n G T U) b left
  unfolding check_by
  checks_end U B c r h k = checks_goes bank r (λ n. check_by o E n G T U) b (λ n. matching E n G B U) c left (goes_then (λ n. infer_by o E n G T) (λ B n. matching E n G B U) b B c h) k

  pub written_stops : (U : Tree) (r : Result (Unit {0}) KernelFault) (e : KernelFault) → IsErrAnd r (λ y. y ≡ e) → Refuses bank e (λ n. infer_by o E n G T) b left → Checks bank r (λ n. written_by o E n G T U) b left
  unfolding written_by
  written_stops U r e i h = err_out (λ z. Checks bank z (λ n. written_by o E n G T U) b left) r e i (refuses_first bank e (λ n. infer_by o E n G T) (λ B n. matching_by o E n G B U) b left h)

  pub written_ends : (U B : Tree) (c : ℕ) (r : Result (Unit {0}) KernelFault) → ComesTo (λ n. infer_by o E n G T) b (done B c) → Checks bank r (λ n. matching_by o E n G B U) c left → Checks bank r (λ n. written_by o E n G T U) b left
  unfolding written_by
  written_ends U B c r h k = checks_goes bank r (λ n. written_by o E n G T U) b (λ n. matching_by o E n G B U) c left (goes_then (λ n. infer_by o E n G T) (λ B n. matching_by o E n G B U) b B c h) k

-- a node: its tick, and what is behind it
pub infer_tick : (o : Open) (E : Environment) (G : Context) (T : Tree) (n : ℕ) → infer_by o E (suc n) G T ≡ tick (inside_of o E G T n)
unfolding infer_by inside_of behind
infer_tick o E G (Rel i) n = refl
infer_tick o E G (Var x) n = refl
infer_tick o E G (Sort s) n = refl
infer_tick o E G (Prod x A B) n = refl
infer_tick o E G (Lam x A t) n = refl
infer_tick o E G (Let x v A t) n = refl
infer_tick o E G (App f a) n = refl
infer_tick o E G (Const c) n = refl
infer_tick o E G (Ind c) n = refl
infer_tick o E G (Ctor c k) n = refl
infer_tick o E G (Elim c s) n = refl
infer_tick o E G (Evar k ts) n = refl

pub ticked : (o : Open) (E : Environment) (G : Context) (T : Tree) (bank : Terms) (r : Result TermId KernelFault) (b c left : ℕ) → b ≡ c + 1 → Types bank r (inside_of o E G T) c left → Types bank r (λ n. infer_by o E n G T) b left
ticked o E G T bank r b c left e h = types_goes bank r (λ n. infer_by o E n G T) b (inside_of o E G T) c left (goes_tick (λ n. infer_by o E n G T) (inside_of o E G T) b c (infer_tick o E G T) e) h

pub out_of_ticks : (o : Open) (E : Environment) (G : Context) (T : Tree) (b left : ℕ) → b ≡ 0 → left ≡ 0 → ComesTo (λ n. infer_by o E n G T) b steps_out × (left ≡ 0)
out_of_ticks o E G T b left e f = (subst (λ z. ComesTo (λ n. infer_by o E n G T) z steps_out) (sym e) (comes_out (λ n. infer_by o E n G T) (inside_of o E G T) (infer_tick o E G T)), f)

-- a variable
pub is_unknown : (bank : Terms) (n : Node) (t : TermId) (k : ℕ) (ps : List TermId) → node_tree bank n ≡ tree_of bank t → n ≡ Node.Evar k ps → IsUnknown (tree_of bank t)
is_unknown bank n t k ps e i = subst IsUnknown (sym (ap (node_tree bank) i) ∙ e) tt

pub evar_typed : (m o : Open) (E : Environment) (G : Context) (bank new : Terms) (n : Node) (t : TermId) (k : ℕ) (ps : List TermId) (T : Tree) (r : Result TermId KernelFault) (b : ℕ) → m ≡ o → node_tree bank n ≡ tree_of bank t → n ≡ Node.Evar k ps → tree_of bank t ≡ T
    → ((j : ℕ) (ts : Trees) (c : ℕ) → tree_of bank t ≡ Evar j ts → Types new r (λ l. m.variable j ts) c c) → Types new r (inside_of o E G T) b b
unfolding inside_of behind infer_by
evar_typed m o E G bank new n t k ps T r b same e i f h =
    let is : tree_of bank t ≡ Evar k (trees_by (tree_of bank) ps) = sym e ∙ ap (node_tree bank) i in
    subst (λ z. Types new r (inside_of o E G z) b b) (sym is ∙ f) (subst (λ (z : Open). Types new r (λ l. z.variable k (trees_by (tree_of bank) ps)) b b) same (h k (trees_by (tree_of bank) ps) b is))

-- a product and an abstraction
module _ (o : Open) (E : Environment) (G : Context) (x : Name) (A B : Tree) (bank : Terms) (b left : ℕ) where
  abbrev inner : Context
  inner = G ++ (record { name = fresh G x; body = None; kind = A } ∷ [])

  abbrev rest : Universe → ℕ → Kernel Tree
  rest s n = infer_by o E n inner (opened (fresh G x) B) >>= λ L. needed_form E n inner L >>= as_sort >>= λ s2. gives (Sort (product_sort s s2))

  prod_first : (n : ℕ) → inside_of o E G (Prod x A B) n ≡ (sort_by o E n G A >>= λ s. rest s n)
  unfolding inside_of behind infer_by sort_by under
  prod_first n = sym (bind_bind (infer_by o E n G A) (λ K. needed_form E n G K >>= as_sort) (λ s. rest s n))

  prod_second : (s : Universe) (n : ℕ) → rest s n ≡ (sort_by o E n inner (opened (fresh G x) B) >>= λ s2. gives (Sort (product_sort s s2)))
  unfolding sort_by
  prod_second s n = sym (bind_bind (infer_by o E n inner (opened (fresh G x) B)) (λ L. needed_form E n inner L >>= as_sort) (λ s2. gives (Sort (product_sort s s2))))

  prod_start : Goes Tree (inside_of o E G (Prod x A B)) b (λ n. sort_by o E n G A >>= λ s. rest s n) b
  prod_start = goes_same (inside_of o E G (Prod x A B)) (λ n. sort_by o E n G A >>= λ s. rest s n) b prod_first

  prod_then : (s : Universe) (c : ℕ) → ComesTo (λ n. sort_by o E n G A) b (done s c) → Goes Tree (inside_of o E G (Prod x A B)) b (λ n. sort_by o E n inner (opened (fresh G x) B) >>= λ s2. gives (Sort (product_sort s s2))) c
  prod_then s c h =
      goes_on (inside_of o E G (Prod x A B)) (λ n. sort_by o E n G A >>= λ s. rest s n) (λ n. sort_by o E n inner (opened (fresh G x) B) >>= λ s2. gives (Sort (product_sort s s2))) b b c prod_start
      (goes_on (λ n. sort_by o E n G A >>= λ s. rest s n) (rest s) (λ n. sort_by o E n inner (opened (fresh G x) B) >>= λ s2. gives (Sort (product_sort s s2))) b c c (goes_then (λ n. sort_by o E n G A) rest b s c h)
      (goes_same (rest s) (λ n. sort_by o E n inner (opened (fresh G x) B) >>= λ s2. gives (Sort (product_sort s s2))) c (prod_second s)))

  pub prod_domain_stops : (r : Result TermId KernelFault) (e : KernelFault) → IsErrAnd r (λ y. y ≡ e) → Refuses bank e (λ n. sort_by o E n G A) b left → Types bank r (inside_of o E G (Prod x A B)) b left
  prod_domain_stops r e i h =
      err_out (λ z. Types bank z (inside_of o E G (Prod x A B)) b left) r e i
      (refuses_goes bank e (inside_of o E G (Prod x A B)) b (λ n. sort_by o E n G A >>= λ s. rest s n) b left prod_start (refuses_first bank e (λ n. sort_by o E n G A) rest b left h))

  pub prod_rest_stops : (s : Universe) (c : ℕ) (r : Result TermId KernelFault) (e : KernelFault) → IsErrAnd r (λ y. y ≡ e) → ComesTo (λ n. sort_by o E n G A) b (done s c) → Refuses bank e (λ n. sort_by o E n inner (opened (fresh G x) B)) c left
      → Types bank r (inside_of o E G (Prod x A B)) b left
  prod_rest_stops s c r e i h k =
      err_out (λ z. Types bank z (inside_of o E G (Prod x A B)) b left) r e i
      (refuses_goes bank e (inside_of o E G (Prod x A B)) b (λ n. sort_by o E n inner (opened (fresh G x) B) >>= λ s2. gives (Sort (product_sort s s2))) c left (prod_then s c h)
      (refuses_first bank e (λ n. sort_by o E n inner (opened (fresh G x) B)) (λ s2 n. gives (Sort (product_sort s s2))) c left k))

  pub prod_comes : (s1 s2 : Universe) (c : ℕ) → ComesTo (λ n. sort_by o E n G A) b (done s1 c) → ComesTo (λ n. sort_by o E n inner (opened (fresh G x) B)) c (done s2 left) → ComesTo (inside_of o E G (Prod x A B)) b (done (Sort (product_sort s1 s2)) left)
  prod_comes s1 s2 c h k =
      prod_then s1 c h (done (Sort (product_sort s1 s2)) left)
      (goes_then (λ n. sort_by o E n inner (opened (fresh G x) B)) (λ s2 n. gives (Sort (product_sort s1 s2))) c s2 left k _ (comes_gives (λ n. gives (Sort (product_sort s1 s2))) (Sort (product_sort s1 s2)) left (λ n. refl)))

  pub prod_ends : (s1 s2 u : Universe) (c : ℕ) (t : TermId) → ComesTo (λ n. sort_by o E n G A) b (done s1 c) → ComesTo (λ n. sort_by o E n inner (opened (fresh G x) B)) c (done s2 left) → u ≡ product_sort s1 s2 → IsTerm bank t (Sort u)
      → Types bank (Ok t) (inside_of o E G (Prod x A B)) b left
  prod_ends s1 s2 u c t h k e made =
      let is : tree_of bank t ≡ Sort (product_sort s1 s2) = made.is ∙ ap (λ z. Sort z) e in
      subst (λ z. IsType bank t z × ComesTo (inside_of o E G (Prod x A B)) b (done z left)) (sym is) (record { term = record { has = made.has; is = is }; within = tt; fits = refl }, prod_comes s1 s2 c h k)

  -- an abstraction
  abbrev body : ℕ → Kernel Tree
  body n = infer_by o E n inner (opened (fresh G x) B) >>= λ C. fitting (Prod x A (close (fresh G x) C))

  lam_first : (n : ℕ) → inside_of o E G (Lam x A B) n ≡ (sort_by o E n G A >>= λ s. body n)
  unfolding inside_of behind infer_by sort_by under
  lam_first n = sym (bind_bind (infer_by o E n G A) (λ K. needed_form E n G K >>= as_sort) (λ s. body n))

  lam_start : Goes Tree (inside_of o E G (Lam x A B)) b (λ n. sort_by o E n G A >>= λ s. body n) b
  lam_start = goes_same (inside_of o E G (Lam x A B)) (λ n. sort_by o E n G A >>= λ s. body n) b lam_first

  lam_then : (s : Universe) (c : ℕ) → ComesTo (λ n. sort_by o E n G A) b (done s c) → Goes Tree (inside_of o E G (Lam x A B)) b body c
  lam_then s c h = goes_on (inside_of o E G (Lam x A B)) (λ n. sort_by o E n G A >>= λ s. body n) body b b c lam_start (goes_then (λ n. sort_by o E n G A) (λ s n. body n) b s c h)

  pub lam_domain_stops : (r : Result TermId KernelFault) (e : KernelFault) → IsErrAnd r (λ y. y ≡ e) → Refuses bank e (λ n. sort_by o E n G A) b left → Types bank r (inside_of o E G (Lam x A B)) b left
  lam_domain_stops r e i h =
      err_out (λ z. Types bank z (inside_of o E G (Lam x A B)) b left) r e i
      (refuses_goes bank e (inside_of o E G (Lam x A B)) b (λ n. sort_by o E n G A >>= λ s. body n) b left lam_start (refuses_first bank e (λ n. sort_by o E n G A) (λ s n. body n) b left h))

  pub lam_body_stops : (s : Universe) (c : ℕ) (r : Result TermId KernelFault) (e : KernelFault) → IsErrAnd r (λ y. y ≡ e) → ComesTo (λ n. sort_by o E n G A) b (done s c) → Refuses bank e (λ n. infer_by o E n inner (opened (fresh G x) B)) c left
      → Types bank r (inside_of o E G (Lam x A B)) b left
  lam_body_stops s c r e i h k =
      err_out (λ z. Types bank z (inside_of o E G (Lam x A B)) b left) r e i
      (refuses_goes bank e (inside_of o E G (Lam x A B)) b body c left (lam_then s c h) (refuses_first bank e (λ n. infer_by o E n inner (opened (fresh G x) B)) (λ C n. fitting (Prod x A (close (fresh G x) C))) c left k))

  pub lam_ends : (s : Universe) (C : Tree) (c : ℕ) (r : Result TermId KernelFault) → Within 0 A → Within 0 C → ComesTo (λ n. sort_by o E n G A) b (done s c) → ComesTo (λ n. infer_by o E n inner (opened (fresh G x) B)) c (done C left) → Fitted bank r (Prod x A (close (fresh G x) C))
      → Types bank r (inside_of o E G (Lam x A B)) b left
  lam_ends s C c r wa wc h k fits =
      types_goes bank r (inside_of o E G (Lam x A B)) b (λ n. fitting (Prod x A (close (fresh G x) C))) left left
      (goes_on (inside_of o E G (Lam x A B)) body (λ n. fitting (Prod x A (close (fresh G x) C))) b c left (lam_then s c h) (goes_then (λ n. infer_by o E n inner (opened (fresh G x) B)) (λ C n. fitting (Prod x A (close (fresh G x) C))) c C left k))
      (fitted_types bank r (Prod x A (close (fresh G x) C)) left (within-product x (fresh G x) A C wa wc) fits)

-- a local definition
module _ (o : Open) (E : Environment) (G : Context) (x : Name) (v A B : Tree) (bank : Terms) (b left : ℕ) where
  abbrev within_let : Context
  within_let = G ++ (record { name = fresh G x; body = Some v; kind = A } ∷ [])

  abbrev let_rest : ℕ → Kernel Tree
  let_rest n = infer_by o E n within_let (opened (fresh G x) B) >>= λ C. fitting (put_in v (close (fresh G x) C))

  abbrev let_value : ℕ → Kernel Tree
  let_value n = infer_by o E n G v >>= λ V. matching_by o E n G V A >>= λ ok. let_rest n

  let_first : (n : ℕ) → inside_of o E G (Let x v A B) n ≡ (sort_by o E n G A >>= λ s. let_value n)
  unfolding inside_of behind infer_by sort_by under_let
  let_first n = sym (bind_bind (infer_by o E n G A) (λ K. needed_form E n G K >>= as_sort) (λ s. let_value n))

  let_second : (n : ℕ) → let_value n ≡ (written_by o E n G v A >>= λ ok. let_rest n)
  unfolding written_by
  let_second n = sym (bind_bind (infer_by o E n G v) (λ V. matching_by o E n G V A) (λ ok. let_rest n))

  let_start : Goes Tree (inside_of o E G (Let x v A B)) b (λ n. sort_by o E n G A >>= λ s. let_value n) b
  let_start = goes_same (inside_of o E G (Let x v A B)) (λ n. sort_by o E n G A >>= λ s. let_value n) b let_first

  let_then : (s : Universe) (c : ℕ) → ComesTo (λ n. sort_by o E n G A) b (done s c) → Goes Tree (inside_of o E G (Let x v A B)) b (λ n. written_by o E n G v A >>= λ ok. let_rest n) c
  let_then s c h =
      goes_on (inside_of o E G (Let x v A B)) (λ n. sort_by o E n G A >>= λ s. let_value n) (λ n. written_by o E n G v A >>= λ ok. let_rest n) b b c let_start
      (goes_on (λ n. sort_by o E n G A >>= λ s. let_value n) let_value (λ n. written_by o E n G v A >>= λ ok. let_rest n) b c c (goes_then (λ n. sort_by o E n G A) (λ s n. let_value n) b s c h)
      (goes_same let_value (λ n. written_by o E n G v A >>= λ ok. let_rest n) c let_second))

  let_last : (s : Universe) (c d : ℕ) → ComesTo (λ n. sort_by o E n G A) b (done s c) → ComesTo (λ n. written_by o E n G v A) c (done (tt {0}) d) → Goes Tree (inside_of o E G (Let x v A B)) b let_rest d
  let_last s c d h k = goes_on (inside_of o E G (Let x v A B)) (λ n. written_by o E n G v A >>= λ ok. let_rest n) let_rest b c d (let_then s c h) (goes_then (λ n. written_by o E n G v A) (λ ok n. let_rest n) c (tt {0}) d k)

  pub let_domain_stops : (r : Result TermId KernelFault) (e : KernelFault) → IsErrAnd r (λ y. y ≡ e) → Refuses bank e (λ n. sort_by o E n G A) b left → Types bank r (inside_of o E G (Let x v A B)) b left
  let_domain_stops r e i h =
      err_out (λ z. Types bank z (inside_of o E G (Let x v A B)) b left) r e i
      (refuses_goes bank e (inside_of o E G (Let x v A B)) b (λ n. sort_by o E n G A >>= λ s. let_value n) b left let_start (refuses_first bank e (λ n. sort_by o E n G A) (λ s n. let_value n) b left h))

  pub let_value_stops : (s : Universe) (c : ℕ) (r : Result TermId KernelFault) (e : KernelFault) → IsErrAnd r (λ y. y ≡ e) → ComesTo (λ n. sort_by o E n G A) b (done s c) → Refuses bank e (λ n. written_by o E n G v A) c left → Types bank r (inside_of o E G (Let x v A B)) b left
  let_value_stops s c r e i h k =
      err_out (λ z. Types bank z (inside_of o E G (Let x v A B)) b left) r e i
      (refuses_goes bank e (inside_of o E G (Let x v A B)) b (λ n. written_by o E n G v A >>= λ ok. let_rest n) c left (let_then s c h) (refuses_first bank e (λ n. written_by o E n G v A) (λ ok n. let_rest n) c left k))

  pub let_rest_stops : (s : Universe) (c d : ℕ) (r : Result TermId KernelFault) (e : KernelFault) → IsErrAnd r (λ y. y ≡ e) → ComesTo (λ n. sort_by o E n G A) b (done s c) → ComesTo (λ n. written_by o E n G v A) c (done (tt {0}) d)
      → Refuses bank e (λ n. infer_by o E n within_let (opened (fresh G x) B)) d left → Types bank r (inside_of o E G (Let x v A B)) b left
  let_rest_stops s c d r e i h k m =
      err_out (λ z. Types bank z (inside_of o E G (Let x v A B)) b left) r e i
      (refuses_goes bank e (inside_of o E G (Let x v A B)) b let_rest d left (let_last s c d h k) (refuses_first bank e (λ n. infer_by o E n within_let (opened (fresh G x) B)) (λ C n. fitting (put_in v (close (fresh G x) C))) d left m))

  pub let_ends : (s : Universe) (C : Tree) (c d : ℕ) (r : Result TermId KernelFault) → Within 0 v → Within 0 C → ComesTo (λ n. sort_by o E n G A) b (done s c) → ComesTo (λ n. written_by o E n G v A) c (done (tt {0}) d)
      → ComesTo (λ n. infer_by o E n within_let (opened (fresh G x) B)) d (done C left) → Fitted bank r (put_in v (close (fresh G x) C)) → Types bank r (inside_of o E G (Let x v A B)) b left
  let_ends s C c d r wv wc h k m fits =
      types_goes bank r (inside_of o E G (Let x v A B)) b (λ n. fitting (put_in v (close (fresh G x) C))) left left
      (goes_on (inside_of o E G (Let x v A B)) let_rest (λ n. fitting (put_in v (close (fresh G x) C))) b d left (let_last s c d h k) (goes_then (λ n. infer_by o E n within_let (opened (fresh G x) B)) (λ C n. fitting (put_in v (close (fresh G x) C))) d C left m))
      (fitted_types bank r (put_in v (close (fresh G x) C)) left (within-subst 0 v (close (fresh G x) C) (within-close 0 (fresh G x) C wc) wv) fits)

-- an application
module _ (o : Open) (E : Environment) (G : Context) (f a : Tree) (bank : Terms) (b left : ℕ) where
  abbrev app_rest : Tree × Tree → ℕ → Kernel Tree
  app_rest p n = infer_by o E n G a >>= λ A. matching E n G A p.0 >>= λ ok. fitting (put_in a p.1)

  app_first : (n : ℕ) → inside_of o E G (App f a) n ≡ (product_of o E n G f >>= λ p. app_rest p n)
  unfolding inside_of behind infer_by product_of
  app_first n = sym (bind_bind (infer_by o E n G f) (λ F. needed_form E n G F >>= as_product) (λ p. app_rest p n))

  app_second : (p : Tree × Tree) (n : ℕ) → app_rest p n ≡ (check_by o E n G a p.0 >>= λ ok. fitting (put_in a p.1))
  unfolding check_by
  app_second p n = sym (bind_bind (infer_by o E n G a) (λ A. matching E n G A p.0) (λ ok. fitting (put_in a p.1)))

  app_start : Goes Tree (inside_of o E G (App f a)) b (λ n. product_of o E n G f >>= λ p. app_rest p n) b
  app_start = goes_same (inside_of o E G (App f a)) (λ n. product_of o E n G f >>= λ p. app_rest p n) b app_first

  app_then : (p : Tree × Tree) (c : ℕ) → ComesTo (λ n. product_of o E n G f) b (done p c) → Goes Tree (inside_of o E G (App f a)) b (λ n. check_by o E n G a p.0 >>= λ ok. fitting (put_in a p.1)) c
  app_then p c h =
      goes_on (inside_of o E G (App f a)) (λ n. product_of o E n G f >>= λ p. app_rest p n) (λ n. check_by o E n G a p.0 >>= λ ok. fitting (put_in a p.1)) b b c app_start
      (goes_on (λ n. product_of o E n G f >>= λ p. app_rest p n) (app_rest p) (λ n. check_by o E n G a p.0 >>= λ ok. fitting (put_in a p.1)) b c c (goes_then (λ n. product_of o E n G f) app_rest b p c h)
      (goes_same (app_rest p) (λ n. check_by o E n G a p.0 >>= λ ok. fitting (put_in a p.1)) c (app_second p)))

  pub app_function_stops : (r : Result TermId KernelFault) (e : KernelFault) → IsErrAnd r (λ y. y ≡ e) → Refuses bank e (λ n. product_of o E n G f) b left → Types bank r (inside_of o E G (App f a)) b left
  app_function_stops r e i h =
      err_out (λ z. Types bank z (inside_of o E G (App f a)) b left) r e i
      (refuses_goes bank e (inside_of o E G (App f a)) b (λ n. product_of o E n G f >>= λ p. app_rest p n) b left app_start (refuses_first bank e (λ n. product_of o E n G f) app_rest b left h))

  pub app_argument_stops : (p : Tree × Tree) (c : ℕ) (r : Result TermId KernelFault) (e : KernelFault) → IsErrAnd r (λ y. y ≡ e) → ComesTo (λ n. product_of o E n G f) b (done p c) → Refuses bank e (λ n. check_by o E n G a p.0) c left → Types bank r (inside_of o E G (App f a)) b left
  app_argument_stops p c r e i h k =
      err_out (λ z. Types bank z (inside_of o E G (App f a)) b left) r e i
      (refuses_goes bank e (inside_of o E G (App f a)) b (λ n. check_by o E n G a p.0 >>= λ ok. fitting (put_in a p.1)) c left (app_then p c h) (refuses_first bank e (λ n. check_by o E n G a p.0) (λ ok n. fitting (put_in a p.1)) c left k))

  pub app_ends : (p : Tree × Tree) (c : ℕ) (r : Result TermId KernelFault) → Within 0 a → Within 1 p.1 → ComesTo (λ n. product_of o E n G f) b (done p c) → ComesTo (λ n. check_by o E n G a p.0) c (done (tt {0}) left) → Fitted bank r (put_in a p.1)
      → Types bank r (inside_of o E G (App f a)) b left
  app_ends p c r wa wp h k fits =
      types_goes bank r (inside_of o E G (App f a)) b (λ n. fitting (put_in a p.1)) left left
      (goes_on (inside_of o E G (App f a)) (λ n. check_by o E n G a p.0 >>= λ ok. fitting (put_in a p.1)) (λ n. fitting (put_in a p.1)) b c left (app_then p c h) (goes_then (λ n. check_by o E n G a p.0) (λ ok n. fitting (put_in a p.1)) c (tt {0}) left k))
      (fitted_types bank r (put_in a p.1) left (within-subst 0 a p.1 wp wa) fits)

-- a term under a binder is as large as the rest of the binder
pub inside_size : (bank : Terms) (u : TermId) (y : Name) (B : Tree) (s : ℕ) → IsTerm bank u (opened y B) → size B ≡ s → size (tree_of bank u) ≡ s
inside_size bank u y B s h e = ap size h.is ∙ size-opened y B ∙ e
