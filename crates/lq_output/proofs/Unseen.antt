-- Opaque constants in front of an environment change nothing for a term that doesn't name them.
use Rattle.std.proofs.Common.{◌≡◌, ◌∙◌, refl, sym, ap, ap₂, ℕ, zero, suc, ◌+◌, ◌-◌, Bool, true, false, nat_lt, List, [], ◌∷◌, ◌++◌, Option, Some, None}
use Rattle.std.specs.Prelude.{if◌then◌else◌, ◌==◌}
use Rattle.std.specs.List.{AllByRecursion}
use Rattle.std.proofs.Math.Path.{fun_ext}
use Rattle.std.proofs.lemmas.Bool.{or_parts, both_ways, false_from_ne_true}
use Rattle.std.proofs.lemmas.Slice.Eq.{bytes_eq-Decides}
use Rattle.lq_trees.specs.Tree.{Name, Tree, Context, same_name}
use Rattle.lq_trees.specs.Tree.Tree.{Rel, Var, Sort, Prod, Lam, Let, App, Const, Ind, Ctor, Elim, Evar}
use Rattle.lq_trees.specs.Change.{Leaves, replace, substituting, lift, close, closing}
use Rattle.lq_trees.specs.Fresh.{is_listed, fresh, opened, under}
use Rattle.lq_trees.specs.Ticks.{gives, fails, tick, ◌>>=◌}
use Rattle.lq_trees.specs.Rules.{Rules}
use Rattle.lq_calculus.specs.Contraction.{whnf}
use Rattle.lq_calculus.specs.Declarations.{Env, Entry, Family, constant, family, arity, constructor, eliminator, lookup, names_of, delta_in, family_in, counts_of, rule_arguments, rules_of}
use Rattle.lq_calculus.specs.Typing.{product_sort}
use Rattle.lq_calculus.specs.Checking.{Kernel, fitting, as_sort, needed_form, constant_kind, infer, conv, mismatch, matching, sort_of, check}

-- a constant that is not put in its place
abbrev pub IsOpaque : Entry → Type 0
IsOpaque (constant A t opaque) = opaque ≡ true
IsOpaque (family f ss) = ⊥
IsOpaque (arity A) = ⊥
IsOpaque (constructor c k) = ⊥
IsOpaque (eliminator c s) = ⊥

-- each declaration is an opaque constant
abbrev pub AllOpaque : Env → Type 0
AllOpaque env = AllByRecursion (λ e. IsOpaque e.1) env

-- what holds of each element of two lists holds of each of both
pub all-append : {X : Type 0} (P : X → Type 0) (xs ys : List X) → AllByRecursion P xs → AllByRecursion P ys → AllByRecursion P (xs ++ ys)
all-append P [] ys h k = k
all-append P (x ∷ xs) ys h k = (h.0, all-append P xs ys h.1 k)

-- what is found among opaque constants
abbrev IsOpaqueOrNone : Option Entry → Type 0
IsOpaqueOrNone None = Unit {0}
IsOpaqueOrNone (Some e) = IsOpaque e

-- what is found among opaque constants is one
opaque_found : (env : Env) (c : Name) → AllOpaque env → IsOpaqueOrNone (lookup env c)
opaque_found [] c h = tt
opaque_found (e ∷ env) c h = either (same_name c e.0) h.0 (opaque_found env c h.1)
  where
    either : (t : Bool) → IsOpaque e.1 → IsOpaqueOrNone (lookup env c) → IsOpaqueOrNone (if t then Some e.1 else lookup env c)
    either true h k = h
    either false h k = k

-- an opaque constant gives no body
no_body : (o : Option Entry) → IsOpaqueOrNone o → delta_in o ≡ None
unfolding delta_in
no_body None h = refl
no_body (Some (constant A t true)) h = refl
no_body (Some (constant A t false)) h = absurd cc
no_body (Some (family f ss)) h = absurd h
no_body (Some (arity A)) h = absurd h
no_body (Some (constructor c k)) h = absurd h
no_body (Some (eliminator c s)) h = absurd h

-- and it is no family
no_family : (o : Option Entry) → IsOpaqueOrNone o → family_in o ≡ None
unfolding family_in
no_family None h = refl
no_family (Some (constant A t opaque)) h = refl
no_family (Some (family f ss)) h = absurd h
no_family (Some (arity A)) h = absurd h
no_family (Some (constructor c k)) h = absurd h
no_family (Some (eliminator c s)) h = absurd h

-- what bodies and families say of computation
abbrev rules_by : (Name → Option Tree) → (Name → Option Family) → Rules
rules_by bodies families =
    record {
      delta = bodies;
      counts = λ c. elim (families c) [ None ↦ None | Some f ↦ Some (counts_of f) ];
      arguments = λ c k. elim (families c) [ None ↦ None | Some f ↦ rule_arguments f k ];
    }

-- opaque constants compute nothing
no_rules : (env : Env) → AllOpaque env → rules_of env ≡ rules_by (λ c. None) (λ c. None)
unfolding rules_of
no_rules env h = ap₂ rules_by (fun_ext (λ c. no_body (lookup env c) (opaque_found env c h))) (fun_ext (λ c. no_family (lookup env c) (opaque_found env c h)))

-- so those in front of others add no rules
pub same_rules : (before env : Env) → AllOpaque before → AllOpaque env → rules_of (before ++ env) ≡ rules_of env
same_rules before env h k = no_rules (before ++ env) (all-append (λ e. IsOpaque e.1) before env h k) ∙ sym (no_rules env k)

-- no entry of the environment has that name
abbrev pub IsNew : Env → Name → Type 0
IsNew env x = is_listed (names_of env) x ≡ false

-- names differ either way round
turned : (x y : Name) → same_name y x ≡ false → same_name x y ≡ false
turned x y e = false_from_ne_true (same_name x y) (λ h. both_ways (same_name y x) e ((bytes_eq-Decides y x).1 (sym ((bytes_eq-Decides x y).0 h))))

-- a name is looked up behind entries of other names
pub lookup_behind : (before env : Env) (x : Name) → IsNew before x → lookup (before ++ env) x ≡ lookup env x
unfolding is_listed
lookup_behind [] env x h = refl
lookup_behind (e ∷ before) env x h =
    let both = or_parts (same_name e.0 x) (is_listed (names_of before) x) h in
    ap (λ t. if t then Some e.1 else lookup (before ++ env) x) (turned x e.0 both.0) ∙ lookup_behind before env x both.1

-- a tree of bound variables, hypotheses, sorts, products, abstractions and constants, whose constants' names have the property
abbrev pub NamesOnly : (Name → Type 0) → Tree → Type 0
NamesOnly P (Rel i) = Unit {0}
NamesOnly P (Var x) = Unit {0}
NamesOnly P (Sort s) = Unit {0}
NamesOnly P (Prod x A B) = NamesOnly P A × NamesOnly P B
NamesOnly P (Lam x A t) = NamesOnly P A × NamesOnly P t
NamesOnly P (Let x v A t) = ⊥
NamesOnly P (App f a) = ⊥
NamesOnly P (Const c) = P c
NamesOnly P (Ind c) = ⊥
NamesOnly P (Ctor c k) = ⊥
NamesOnly P (Elim c s) = ⊥
NamesOnly P (Evar n ts) = ⊥

module _ (P : Name → Type 0) (f : Leaves) (bound : (d i : ℕ) → NamesOnly P (f.bound d i)) (named : (d : ℕ) (x : Name) → NamesOnly P (f.named d x)) where
  -- leaves that keep the property in the place of a tree's leaves
  names-replace : (d : ℕ) (t : Tree) → NamesOnly P t → NamesOnly P (replace f d t)
  names-replace d (Rel i) p = bound d i
  names-replace d (Var x) p = named d x
  names-replace d (Sort s) p = tt
  names-replace d (Prod x A B) p = (names-replace d A p.0, names-replace (d + 1) B p.1)
  names-replace d (Lam x A t) p = (names-replace d A p.0, names-replace (d + 1) t p.1)
  names-replace d (Const c) p = p
  names-replace d (Let x v A t) p = absurd p
  names-replace d (App g a) p = absurd p
  names-replace d (Ind c) p = absurd p
  names-replace d (Ctor c k) p = absurd p
  names-replace d (Elim c s) p = absurd p
  names-replace d (Evar k ts) p = absurd p

-- a binder's variable made a hypothesis, and a hypothesis made a binder's variable
pub names-opened : (P : Name → Type 0) (y : Name) (t : Tree) → NamesOnly P t → NamesOnly P (opened y t)
unfolding opened
names-opened P y t p = names-replace P (substituting (Var y)) (λ d i. either d i (nat_lt i d) (i == d)) (λ d x. tt) 0 t p
  where
    either : (d i : ℕ) (a b : Bool) → NamesOnly P (if a then Rel i else if b then lift d 0 (Var y) else Rel (i - 1))
    either d i true b = tt
    either d i false true = tt
    either d i false false = tt

pub names-close : (P : Name → Type 0) (y : Name) (t : Tree) → NamesOnly P t → NamesOnly P (close y t)
names-close P y t p = names-replace P (closing y) (λ d i. index i (nat_lt i d)) (λ d x. name d x (same_name x y)) 0 t p
  where
    index : (i : ℕ) (a : Bool) → NamesOnly P (if a then Rel i else Rel (i + 1))
    index i true = tt
    index i false = tt

    name : (d : ℕ) (x : Name) (a : Bool) → NamesOnly P (if a then Rel d else Var x)
    name d x true = tt
    name d x false = tt

-- the work for a product and for an abstraction, by the work for their parts
unfoldable product_work : Rules → ℕ → Context → Name → Tree → Kernel Tree → Kernel Tree → Kernel Tree
product_work r n g x A first second =
    tick (
    first >>= λ K. (whnf r g n K >>= fitting) >>= as_sort >>= λ s1.
    second >>= λ L. (whnf r (under g (fresh g x) A) n L >>= fitting) >>= as_sort >>= λ s2.
    gives (Sort (product_sort s1 s2)))

unfoldable lambda_work : Rules → ℕ → Context → Name → Tree → Kernel Tree → Kernel Tree → Kernel Tree
lambda_work r n g x A first second =
    tick (
    first >>= λ K. (whnf r g n K >>= fitting) >>= as_sort >>= λ s.
    second >>= λ B. fitting (Prod x A (close (fresh g x) B)))

-- inference at a product, and at an abstraction
product_is : (env : Env) (n : ℕ) (g : Context) (x : Name) (A B : Tree) →
    infer env (suc n) g (Prod x A B) ≡ product_work (rules_of env) n g x A (infer env n g A) (infer env n (under g (fresh g x) A) (opened (fresh g x) B))
unfolding infer needed_form product_work
product_is env n g x A B = refl

lambda_is : (env : Env) (n : ℕ) (g : Context) (x : Name) (A t : Tree) →
    infer env (suc n) g (Lam x A t) ≡ lambda_work (rules_of env) n g x A (infer env n g A) (infer env n (under g (fresh g x) A) (opened (fresh g x) t))
unfolding infer needed_form lambda_work
lambda_is env n g x A t = refl

module _ (before env : Env) (front : AllOpaque before) (own : AllOpaque env) where
  -- inference
  pub infer_behind : (n : ℕ) (g : Context) (t : Tree) → NamesOnly (IsNew before) t → infer (before ++ env) n g t ≡ infer env n g t
  unfolding infer
  infer_behind zero g t p = refl
  infer_behind (suc n) g (Rel i) p = refl
  infer_behind (suc n) g (Var x) p = refl
  infer_behind (suc n) g (Sort s) p = refl
  infer_behind (suc n) g (Prod x A B) p =
      product_is (before ++ env) n g x A B
      ∙ ap (λ r. product_work r n g x A (infer (before ++ env) n g A) (infer (before ++ env) n (under g (fresh g x) A) (opened (fresh g x) B))) (same_rules before env front own)
      ∙ ap₂ (product_work (rules_of env) n g x A) (infer_behind n g A p.0) (infer_behind n (under g (fresh g x) A) (opened (fresh g x) B) (names-opened (IsNew before) (fresh g x) B p.1))
      ∙ sym (product_is env n g x A B)
  infer_behind (suc n) g (Lam x A t) p =
      lambda_is (before ++ env) n g x A t
      ∙ ap (λ r. lambda_work r n g x A (infer (before ++ env) n g A) (infer (before ++ env) n (under g (fresh g x) A) (opened (fresh g x) t))) (same_rules before env front own)
      ∙ ap₂ (lambda_work (rules_of env) n g x A) (infer_behind n g A p.0) (infer_behind n (under g (fresh g x) A) (opened (fresh g x) t) (names-opened (IsNew before) (fresh g x) t p.1))
      ∙ sym (lambda_is env n g x A t)
  infer_behind (suc n) g (Const c) p = ap (λ o. tick (constant_kind c o)) (lookup_behind before env c p)
  infer_behind (suc n) g (Let x v A t) p = absurd p
  infer_behind (suc n) g (App f a) p = absurd p
  infer_behind (suc n) g (Ind c) p = absurd p
  infer_behind (suc n) g (Ctor c k) p = absurd p
  infer_behind (suc n) g (Elim c s) p = absurd p
  infer_behind (suc n) g (Evar k ts) p = absurd p

  -- the sort of a term
  pub sort_behind : (n : ℕ) (g : Context) (A : Tree) → NamesOnly (IsNew before) A → sort_of (before ++ env) n g A ≡ sort_of env n g A
  unfolding sort_of needed_form
  sort_behind n g A p = ap₂ (λ r w. w >>= λ K. (whnf r g n K >>= fitting) >>= as_sort) (same_rules before env front own) (infer_behind n g A p)

  -- a check of a term against a type
  pub check_behind : (n : ℕ) (g : Context) (t A : Tree) → NamesOnly (IsNew before) t → check (before ++ env) n g t A ≡ check env n g t A
  unfolding check matching
  check_behind n g t A p =
      ap₂ (λ r w. w >>= λ B. conv r g n B A >>= λ same. elim same [ true ↦ gives tt | false ↦ fails (mismatch B A) ]) (same_rules before env front own) (infer_behind n g t p)
