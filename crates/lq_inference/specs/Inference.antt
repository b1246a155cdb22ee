-- Inference where a caller gives the types of variables.
use Rattle.std.specs.Prelude.{ℕ, zero, suc, true, false, [], Some, None}
use Rattle.lq_trees.specs.Tree.{Tree, Trees, Context}
use Rattle.lq_trees.specs.Tree.Tree.{Rel, Var, Sort, Prod, Lam, Let, App, Const, Ind, Ctor, Elim, Evar}
use Rattle.lq_trees.specs.Change.{subst, close}
use Rattle.lq_trees.specs.Ticks.{gives, fails, cut, tick, ◌>>=◌}
use Rattle.lq_trees.specs.Fresh.{fresh, opened, under, under_let}
use Rattle.lq_calculus.specs.Contraction.{hypothesis}
use Rattle.lq_calculus.specs.Declarations.{Env, lookup, rules_of}
use Rattle.lq_calculus.specs.Typing.{product_sort}
use Rattle.lq_calculus.specs.Checking.{Kernel, conv, fitting, as_sort, as_product, needed_form, matching, sort_above, constant_kind, family_kind, ctor_kind, elim_kind, unbound, has_variable, mismatch}

-- what inference does where the kernel's gives up: the type of a variable with an instance, and the fault of two types that
-- differ, the second of which was written
pub record Open : Type 0 where
  pub variable : ℕ → Trees → Kernel Tree
  pub differ : Tree → Tree → Kernel (Unit {0})

-- the kernel's own inference: no variable has a type
abbrev pub closed : Open
closed = record { variable = λ m ts. fails (has_variable m); differ = λ found written. fails (mismatch found written) }

-- a found type against a written one
unfoldable pub matching_by : Open → Env → ℕ → Context → Tree → Tree → Kernel (Unit {0})
matching_by o env n g found written =
    conv (rules_of env) g n found written >>= λ same. elim same [ true ↦ gives tt | false ↦ o.differ found written ]

-- inference: a tick for the node before its parts
unfoldable pub infer_by : Open → Env → ℕ → Context → Tree → Kernel Tree
infer_by o env zero g t = cut
infer_by o env (suc n) g (Rel i) = tick (fails (unbound []))
infer_by o env (suc n) g (Var x) = tick (elim (hypothesis g x) [ Some h ↦ fitting h.kind | None ↦ fails (unbound x) ])
infer_by o env (suc n) g (Sort s) = tick (sort_above s)
infer_by o env (suc n) g (Prod x A B) =
    tick (
    infer_by o env n g A >>= λ K. needed_form env n g K >>= as_sort >>= λ s1.
    infer_by o env n (under g (fresh g x) A) (opened (fresh g x) B) >>= λ L.
    needed_form env n (under g (fresh g x) A) L >>= as_sort >>= λ s2.
    gives (Sort (product_sort s1 s2)))
infer_by o env (suc n) g (Lam x A t) =
    tick (
    infer_by o env n g A >>= λ K. needed_form env n g K >>= as_sort >>= λ s.
    infer_by o env n (under g (fresh g x) A) (opened (fresh g x) t) >>= λ B.
    fitting (Prod x A (close (fresh g x) B)))
infer_by o env (suc n) g (Let x v A t) =
    tick (
    infer_by o env n g A >>= λ K. needed_form env n g K >>= as_sort >>= λ s.
    infer_by o env n g v >>= λ V. matching_by o env n g V A >>= λ ok.
    infer_by o env n (under_let g (fresh g x) v A) (opened (fresh g x) t) >>= λ B.
    fitting (subst v (close (fresh g x) B)))
infer_by o env (suc n) g (App f a) =
    tick (
    infer_by o env n g f >>= λ F. needed_form env n g F >>= as_product >>= λ p.
    infer_by o env n g a >>= λ A. matching env n g A p.0 >>= λ ok.
    fitting (subst a p.1))
infer_by o env (suc n) g (Const c) = tick (constant_kind c (lookup env c))
infer_by o env (suc n) g (Ind c) = tick (family_kind c (lookup env c))
infer_by o env (suc n) g (Ctor c k) = tick (ctor_kind c k (lookup env c))
infer_by o env (suc n) g (Elim c s) = tick (elim_kind c s (lookup env c))
infer_by o env (suc n) g (Evar m ts) = tick (o.variable m ts)
