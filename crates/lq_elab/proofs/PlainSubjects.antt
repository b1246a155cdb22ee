-- What has a type holds no variable, and no bound variable is loose in it.
use Rattle.std.proofs.Common.{◌≤◌, ◌+◌, ℕ, suc, arith, []}
use Rattle.lq_trees.specs.Tree.{Name, Tree, Context}
use Rattle.lq_trees.specs.Tree.Tree.{Rel, Var, Sort, Prod, Lam, Let, App, Const, Ind, Ctor, Elim, Evar}
use Rattle.lq_trees.specs.Change.{Leaves, replace, substituting}
use Rattle.lq_trees.specs.Fresh.{opened}
use Rattle.lq_trees.specs.Index.{Within}
use Rattle.lq_calculus.specs.Declarations.{Env}
use Rattle.lq_calculus.specs.Typing.{Derives, prop_has, type_has, hypothesis_has, constant_has, family_has, arity_has, constructor_has, eliminator_has}
use Rattle.lq_calculus.specs.Typing.{product_has, function_has, let_has, application_has, equal_has}
use Rattle.lq_solving.specs.Kept.{IsOver}

-- replacing leaves takes no variable away
pub over_before : (f : Leaves) (d : ℕ) (t : Tree) → IsOver [] (replace f d t) → IsOver [] t
over_before f d (Rel i) h = tt
over_before f d (Var x) h = tt
over_before f d (Sort s) h = tt
over_before f d (Prod x A B) h = (over_before f d A h.0, over_before f (d + 1) B h.1)
over_before f d (Lam x A B) h = (over_before f d A h.0, over_before f (d + 1) B h.1)
over_before f d (Let x v A B) h = (over_before f d v h.0, over_before f d A h.1, over_before f (d + 1) B h.2)
over_before f d (App g a) h = (over_before f d g h.0, over_before f d a h.1)
over_before f d (Const c) h = tt
over_before f d (Ind c) h = tt
over_before f d (Ctor c k) h = tt
over_before f d (Elim c s) h = tt
over_before f d (Evar n ts) h = absurd (omega (arith, h.0))

-- one bound variable more may be loose before a hypothesis stands for it
bound_before : (y : Name) (d i : ℕ) → Within d ((substituting (Var y)).bound d i) → suc i ≤ d + 1
bound_before y d i h = grind (arith, h)

pub within_before : (y : Name) (d : ℕ) (t : Tree) → IsOver [] t → Within d (replace (substituting (Var y)) d t) → Within (d + 1) t
within_before y d (Rel i) o h = bound_before y d i h
within_before y d (Var x) o h = tt
within_before y d (Sort s) o h = tt
within_before y d (Prod x A B) o h = (within_before y d A o.0 h.0, within_before y (d + 1) B o.1 h.1)
within_before y d (Lam x A B) o h = (within_before y d A o.0 h.0, within_before y (d + 1) B o.1 h.1)
within_before y d (Let x v A B) o h = (within_before y d v o.0 h.0, within_before y d A o.1 h.1, within_before y (d + 1) B o.2 h.2)
within_before y d (App g a) o h = (within_before y d g o.0 h.0, within_before y d a o.1 h.1)
within_before y d (Const c) o h = tt
within_before y d (Ind c) o h = tt
within_before y d (Ctor c k) o h = tt
within_before y d (Elim c s) o h = tt
within_before y d (Evar n ts) o h = absurd (omega (arith, o.0))

-- no variable, and no bound variable loose
abbrev pub IsWhole : Tree → Type 0
IsWhole t = IsOver [] t × Within 0 t

-- what is under a binder, by its opened form
rest_whole : (y : Name) (t : Tree) → IsWhole (opened y t) → IsOver [] t × Within 1 t
unfolding opened
rest_whole y t h = let o = over_before (substituting (Var y)) 0 t h.0 in (o, within_before y 0 t o h.1)

-- by each typing rule
pub derived_whole : {env : Env} {g : Context} {t A : Tree} → Derives env g t A → IsWhole t
derived_whole prop_has = (tt, tt)
derived_whole (type_has l) = (tt, tt)
derived_whole (hypothesis_has e) = (tt, tt)
derived_whole (constant_has e) = (tt, tt)
derived_whole (family_has e) = (tt, tt)
derived_whole (arity_has e) = (tt, tt)
derived_whole (constructor_has e k) = (tt, tt)
derived_whole (eliminator_has e p) = (tt, tt)
derived_whole (product_has a b) = let h = derived_whole a in let k = rest_whole _ _ (derived_whole b) in ((h.0, k.0), (h.1, k.1))
derived_whole (function_has a b) = let h = derived_whole a in let k = rest_whole _ _ (derived_whole b) in ((h.0, k.0), (h.1, k.1))
derived_whole (let_has a v b) =
    let h = derived_whole a in let j = derived_whole v in let k = rest_whole _ _ (derived_whole b) in ((j.0, h.0, k.0), (j.1, h.1, k.1))
derived_whole (application_has f a) = let h = derived_whole f in let k = derived_whole a in ((h.0, k.0), (h.1, k.1))
derived_whole (equal_has d e) = derived_whole d
