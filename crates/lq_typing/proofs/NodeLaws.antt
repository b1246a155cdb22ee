-- The nodes that ask for no part: sorts and declared names are typed alike everywhere, hypotheses and variables by what their kept types read as.
use Rattle.std.proofs.Common.{◌≡◌, ◌∙◌, ℕ, zero, suc, refl, ap, [], ◌∷◌, Option, None, Some, Bool, true, false}
use Rattle.std.specs.Prelude.{slice_get}
use Rattle.lq_trees.specs.declared.Sort.{Sort as Universe}
use Rattle.lq_trees.specs.Tree.{Name, Tree, Trees, Hypothesis, Context, same_name}
use Rattle.lq_trees.specs.Tree.Tree.{Var, Sort, Const, Ind, Ctor, Elim, Evar}
use Rattle.lq_trees.specs.Ticks.{fails, tick, Outcome, ComesTo}
use Rattle.lq_trees.proofs.Outcomes.{comes_tick, comes_fails}
use Rattle.lq_trees.specs.Ticks.{failed}
use Rattle.lq_calculus.specs.Declarations.{Env}
use Rattle.lq_calculus.specs.Contraction.{hypothesis}
use Rattle.lq_calculus.specs.Checking.{KernelFault, Kernel, fitting, unbound}
use Rattle.lq_inference.specs.Inference.{Open, infer_by}
use Rattle.lq_solving.specs.Stores.{Variable, Store, names_in, body_at, find_value, read, read_hypothesis, read_context}
use Rattle.lq_solving.specs.Kept.{IsOver, EachIsOver, IsStore}
use Rattle.lq_solving.specs.Inference.{by_store_types, variable_kind}
use Rattle.lq_solving.proofs.ReadLaws.{filled_each, open_stays}
use Rattle.lq_solving.proofs.Later.{reads_var}
use Rattle.lq_typing.proofs.EndLaws.{variable_reads}

-- ---- the same everywhere

module _ (o p : Open) (env : Env) (g h : Context) where
  pub sort_same : (u : Universe) (n : ℕ) → infer_by o env n g (Sort u) ≡ infer_by p env n h (Sort u)
  unfolding infer_by
  sort_same u zero = refl
  sort_same u (suc n) = refl

  pub constant_same : (x : Name) (n : ℕ) → infer_by o env n g (Const x) ≡ infer_by p env n h (Const x)
  unfolding infer_by
  constant_same x zero = refl
  constant_same x (suc n) = refl

  pub family_same : (x : Name) (n : ℕ) → infer_by o env n g (Ind x) ≡ infer_by p env n h (Ind x)
  unfolding infer_by
  family_same x zero = refl
  family_same x (suc n) = refl

  pub constructor_same : (x : Name) (k n : ℕ) → infer_by o env n g (Ctor x k) ≡ infer_by p env n h (Ctor x k)
  unfolding infer_by
  constructor_same x k zero = refl
  constructor_same x k (suc n) = refl

  pub eliminator_same : (x : Name) (u : Universe) (n : ℕ) → infer_by o env n g (Elim x u) ≡ infer_by p env n h (Elim x u)
  unfolding infer_by
  eliminator_same x u zero = refl
  eliminator_same x u (suc n) = refl

-- ---- by what kept types read as

-- the hypothesis of a name, as read
pub hypothesis_read : (s : Store) (g : Context) (x : Name) → hypothesis (read_context s g) x ≡ elim (hypothesis g x) as (λ z. Option Hypothesis) [ None ↦ None | Some h ↦ Some (read_hypothesis s h) ]
unfolding hypothesis read_context read_hypothesis
hypothesis_read s [] x = refl
hypothesis_read s (h ∷ g) x = at (same_name h.name x) (hypothesis_read s g x)
  where
    at : (b : Bool) → hypothesis (read_context s g) x ≡ elim (hypothesis g x) as (λ z. Option Hypothesis) [ None ↦ None | Some h ↦ Some (read_hypothesis s h) ] →
        elim b as (λ z. Option Hypothesis) [ true ↦ Some (read_hypothesis s h) | false ↦ hypothesis (read_context s g) x ]
        ≡ elim (elim b as (λ z. Option Hypothesis) [ true ↦ Some h | false ↦ hypothesis g x ]) as (λ z. Option Hypothesis) [ None ↦ None | Some h ↦ Some (read_hypothesis s h) ]
    at true ih = refl
    at false ih = ih

module _ (s : Store) (i : IsStore s) (env : Env) (g : Context) (b : ℕ) where
  -- the type of a node of the kept term
  abbrev kind_of : Tree → ℕ → Kernel Tree
  kind_of t n = infer_by (by_store_types s) env n (read_context s g) (read s t)

  var_work : (x : Name) (o : Option Hypothesis) → hypothesis g x ≡ o → (n : ℕ) →
      kind_of (Var x) (suc n) ≡ tick (elim (elim o as (λ z. Option Hypothesis) [ None ↦ None | Some h ↦ Some (read_hypothesis s h) ]) as (λ z. Kernel Tree) [ Some h ↦ fitting h.kind | None ↦ fails (unbound x) ])
  unfolding infer_by read
  var_work x o e n =
      ap (λ t. infer_by (by_store_types s) env (suc n) (read_context s g) t) (reads_var s.variables s.values x)
      ∙ ap (λ q. tick (elim q as (λ z. Kernel Tree) [ Some h ↦ fitting h.kind | None ↦ fails (unbound x) ])) (hypothesis_read s g x ∙ ap (λ q. elim q as (λ z. Option Hypothesis) [ None ↦ None | Some h ↦ Some (read_hypothesis s h) ]) e)

  pub hypothesis_typed : (x : Name) (h : Hypothesis) (r : Outcome KernelFault Tree) → hypothesis g x ≡ Some h → ComesTo (λ n. fitting (read s h.kind)) b r → ComesTo (kind_of (Var x)) (suc b) r
  unfolding read_hypothesis
  hypothesis_typed x h r e k = comes_tick (kind_of (Var x)) (λ n. fitting (read s h.kind)) b r (λ n. var_work x (Some h) e n) k

  pub hypothesis_unbound : (x : Name) → hypothesis g x ≡ None → ComesTo (kind_of (Var x)) (suc b) (failed (unbound x) b)
  hypothesis_unbound x e = comes_tick (kind_of (Var x)) (λ n. fails (unbound x)) b (failed (unbound x) b) (λ n. var_work x None e n) (comes_fails (λ n. fails (unbound x)) (unbound x) b (λ n. refl))

  -- a variable without a value
  module _ (k : ℕ) (ts : Trees) (v : Variable) (free : find_value s.values k ≡ None) (known : slice_get s.variables k ≡ Some v) (over : IsOver s.variables v.kind) (each : EachIsOver s.variables ts) where
    variable_work : (n : ℕ) → kind_of (Evar k ts) (suc n) ≡ tick (fitting (read s (body_at (names_in v.context) v.kind ts)))
    unfolding infer_by read
    variable_work n =
        ap (λ t. infer_by (by_store_types s) env (suc n) (read_context s g) t) (open_stays s.variables s.values k ts free)
        ∙ ap (λ q. tick (variable_kind s k (filled_each s.variables s.values ts) q)) known
        ∙ ap tick (variable_reads s i k ts v over each)

    pub variable_typed : (r : Outcome KernelFault Tree) → ComesTo (λ n. fitting (read s (body_at (names_in v.context) v.kind ts))) b r → ComesTo (kind_of (Evar k ts)) (suc b) r
    variable_typed r h = comes_tick (kind_of (Evar k ts)) (λ n. fitting (read s (body_at (names_in v.context) v.kind ts))) b r variable_work h
