-- A family that is being declared counts by what is within the limits of its type: where two types are both
-- within them and one, or pass the same limit, the kernel's work is the same.
use Rattle.std.proofs.Common.{◌≡◌, ℕ, zero, suc, refl, ap, ap₂, List, [], ◌∷◌, ◌++◌, Option, Some, None, Bool, true, false}
use Rattle.std.proofs.Math.Path.{fun_ext}
use Rattle.std.specs.Prelude.{if◌then◌else◌}
use Rattle.lq_trees.specs.declared.Sort.{Sort as Universe}
use Rattle.lq_trees.specs.Tree.{Name, Tree, Context, same_name}
use Rattle.lq_trees.specs.Tree.Tree.{Rel, Var, Sort, Prod, Lam, Let, App, Const, Ind, Ctor, Elim, Evar}
use Rattle.lq_trees.specs.Change.{close}
use Rattle.lq_trees.specs.Change.{subst as put_in}
use Rattle.lq_trees.specs.Fresh.{fresh, opened, under, under_let}
use Rattle.lq_trees.specs.Ticks.{gives, fails, tick, ◌>>=◌}
use Rattle.lq_trees.specs.Rules.{Counts, Arguments}
use Rattle.lq_calculus.specs.Contraction.{whnf}
use Rattle.lq_calculus.specs.Declarations.{Env as Environment, Entry, Family, arity, lookup, delta_in, family_in, counts_of, rule_arguments, rules_of}
use Rattle.lq_calculus.specs.Typing.{product_sort, first_big}
use Rattle.lq_calculus.specs.Checking.{Kernel, mismatch, fitting, as_sort, as_product, needed_form, matching, constant_kind, family_kind, ctor_kind, elim_kind, conv, infer, sort_of, answer_of, domain_sorts, not_big, check_constructors}

-- one part after the other, where the parts are the same
bind_alike : {A B : Type 0} {r s : Kernel A} {k l : A → Kernel B} → r ≡ s → ((a : A) → k a ≡ l a) → (r >>= k) ≡ (s >>= l)
bind_alike {A} {B} {r} {s} {k} {l} e h = ap₂ (λ x y. x >>= y) e (fun_ext h)

-- two environments that tell the same rules and the same types
module _ (E F : Environment) (rules : rules_of E ≡ rules_of F) (constants : (c : Name) → constant_kind c (lookup E c) ≡ constant_kind c (lookup F c))
    (families : (c : Name) → family_kind c (lookup E c) ≡ family_kind c (lookup F c)) (ctors : (c : Name) (k : ℕ) → ctor_kind c k (lookup E c) ≡ ctor_kind c k (lookup F c))
    (elims : (c : Name) (s : Universe) → elim_kind c s (lookup E c) ≡ elim_kind c s (lookup F c)) where
  needed_alike : (n : ℕ) (g : Context) (t : Tree) → needed_form E n g t ≡ needed_form F n g t
  unfolding needed_form
  needed_alike n g t = ap (λ r. whnf r g n t >>= fitting) rules

  matching_alike : (n : ℕ) (g : Context) (t u : Tree) → matching E n g t u ≡ matching F n g t u
  unfolding matching
  matching_alike n g t u = ap (λ r. conv r g n t u >>= λ same. elim same [ true ↦ gives (tt {0}) | false ↦ fails (mismatch t u) ]) rules

  form_alike : {A : Type 0} (k : Tree → Kernel A) (n : ℕ) (g : Context) (t : Tree) → (needed_form E n g t >>= k) ≡ (needed_form F n g t >>= k)
  form_alike k n g t = ap (λ r. r >>= k) (needed_alike n g t)

  infer_alike : (n : ℕ) (g : Context) (t : Tree) → infer E n g t ≡ infer F n g t
  unfolding infer
  infer_alike zero g t = refl
  infer_alike (suc n) g (Rel i) = refl
  infer_alike (suc n) g (Var x) = refl
  infer_alike (suc n) g (Sort s) = refl
  infer_alike (suc n) g (Prod x A B) =
      ap tick
      (bind_alike (infer_alike n g A)
      (λ K. bind_alike (form_alike as_sort n g K)
      (λ s. bind_alike (infer_alike n (under g (fresh g x) A) (opened (fresh g x) B)) (λ L. ap (λ r. r >>= λ s2. gives (Sort (product_sort s s2))) (form_alike as_sort n (under g (fresh g x) A) L)))))
  infer_alike (suc n) g (Lam x A t) =
      ap tick
      (bind_alike (infer_alike n g A)
      (λ K. bind_alike (form_alike as_sort n g K) (λ s. ap (λ r. r >>= λ B. fitting (Prod x A (close (fresh g x) B))) (infer_alike n (under g (fresh g x) A) (opened (fresh g x) t)))))
  infer_alike (suc n) g (Let x v A t) =
      ap tick
      (bind_alike (infer_alike n g A)
      (λ K. bind_alike (form_alike as_sort n g K)
      (λ s. bind_alike (infer_alike n g v)
      (λ V. bind_alike (matching_alike n g V A) (λ ok. ap (λ r. r >>= λ B. fitting (put_in v (close (fresh g x) B))) (infer_alike n (under_let g (fresh g x) v A) (opened (fresh g x) t)))))))
  infer_alike (suc n) g (App f a) =
      ap tick
      (bind_alike (infer_alike n g f)
      (λ K. bind_alike (form_alike as_product n g K)
      (λ p. bind_alike (infer_alike n g a) (λ A. ap (λ r. r >>= λ ok. fitting (put_in a p.1)) (matching_alike n g A p.0)))))
  infer_alike (suc n) g (Const c) = ap tick (constants c)
  infer_alike (suc n) g (Ind c) = ap tick (families c)
  infer_alike (suc n) g (Ctor c k) = ap tick (ctors c k)
  infer_alike (suc n) g (Elim c s) = ap tick (elims c s)
  infer_alike (suc n) g (Evar m ts) = refl

  sort_alike : (n : ℕ) (g : Context) (t : Tree) → sort_of E n g t ≡ sort_of F n g t
  unfolding sort_of
  sort_alike n g t = bind_alike (infer_alike n g t) (λ K. form_alike as_sort n g K)

  row_alike : (n : ℕ) (g : Context) (t : Tree) → domain_sorts E n g t ≡ domain_sorts F n g t
  unfolding domain_sorts
  row_alike (suc n) g (Prod x A B) =
      ap₂ (λ o ss. elim o as (λ z. List Universe) [ None ↦ [] | Some s ↦ s ∷ ss ]) (ap answer_of (sort_alike n g A)) (row_alike n (under g (fresh g x) A) (opened (fresh g x) B))
  row_alike n g _ = refl

  constructors_alike : (n : ℕ) (f : Family) (cs : List (Name × Tree)) → check_constructors E n f cs ≡ check_constructors F n f cs
  unfolding check_constructors
  constructors_alike n f [] = refl
  constructors_alike n f (c ∷ cs) =
      bind_alike (sort_alike n f.parameters c.1)
      (λ s. ap₂ (λ domains rest. not_big c.0 (first_big f.sort 1 domains) >>= λ ok. rest >>= λ found. gives (domains ∷ found)) (row_alike n f.parameters c.1) (constructors_alike n f cs))

-- an entry at the end
module _ (c : Name) (A B : Tree) where
  look_alike : {X : Type 0} (P : Option Entry → X) → P (Some (arity A)) ≡ P (Some (arity B)) → (E : Environment) (x : Name) → P (lookup (E ++ (c, arity A) ∷ []) x) ≡ P (lookup (E ++ (c, arity B) ∷ []) x)
  look_alike {X} P e [] x = by (same_name x c)
    where
      by : (b : Bool) → P (if b then Some (arity A) else None) ≡ P (if b then Some (arity B) else None)
      by true = e
      by false = refl
  look_alike {X} P e (d ∷ E) x = by (same_name x d.0) (look_alike P e E x)
    where
      by : (b : Bool) → P (lookup (E ++ (c, arity A) ∷ []) x) ≡ P (lookup (E ++ (c, arity B) ∷ []) x) → P (if b then Some d.1 else lookup (E ++ (c, arity A) ∷ []) x) ≡ P (if b then Some d.1 else lookup (E ++ (c, arity B) ∷ []) x)
      by true h = refl
      by false h = h

  rules_alike : (E : Environment) → rules_of (E ++ (c, arity A) ∷ []) ≡ rules_of (E ++ (c, arity B) ∷ [])
  unfolding rules_of delta_in family_in
  rules_alike E = λ i. record {
    delta = fun_ext (λ x. look_alike delta_in refl E x) i;
    counts = fun_ext (λ x. look_alike (λ o. elim (family_in o) as (λ z. Option Counts) [ None ↦ None | Some f ↦ Some (counts_of f) ]) refl E x) i;
    arguments = fun_ext (λ x. fun_ext (λ k. look_alike (λ o. elim (family_in o) as (λ z. Option Arguments) [ None ↦ None | Some f ↦ rule_arguments f k ]) refl E x)) i;
  }

  -- the constructors, by two types of the family that count alike
  pub arity_alike : fitting A ≡ fitting B → (E : Environment) (n : ℕ) (f : Family) (cs : List (Name × Tree)) → check_constructors (E ++ (c, arity A) ∷ []) n f cs ≡ check_constructors (E ++ (c, arity B) ∷ []) n f cs
  unfolding constant_kind family_kind ctor_kind elim_kind
  arity_alike e E n f cs =
      constructors_alike (E ++ (c, arity A) ∷ []) (E ++ (c, arity B) ∷ []) (rules_alike E) (λ x. look_alike (constant_kind x) refl E x) (λ x. look_alike (family_kind x) e E x) (λ x k. look_alike (ctor_kind x k) refl E x)
      (λ x s. look_alike (elim_kind x s) refl E x) n f cs
