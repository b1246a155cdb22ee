-- The first name of a row, and what it binds.
use Rattle.std.proofs.Common.{◌≡◌, refl, sym, ap, arith, length, Bool, List, [], ◌∷◌, ◌++◌, map, Option, None, Some, Bor}
use Rattle.lq_ast.specs.Syntax as Tree
use Rattle.lq_ast.specs.Syntax.{Bound, bound, applied}
use Rattle.lq_ast.specs.Plain.{plain, plain_binders, name_of, typed, untyped, joined}
use Rattle.lq_ast.specs.declared.surface.Binder.{Binder}
use Rattle.lq_ast.specs.declared.surface.Binders.{Binders}
use Rattle.lq_ast.specs.declared.surface.Surface.{Surface, Apply}
use Rattle.lq_ast.proofs.PlainLaws.{plain_apply}
use Rattle.lq_elab.specs.Views.{row_node}

module _ (p : Bool) (far : List Bound) (t : Tree.Surface) (x : Binder) (xs : List Binder) where
  pub first_tree : (o : Option (Bor Surface)) → (ns : List Binder) → ns ≡ x ∷ xs →
      row_node p (name_of x.name) (elim o [ Some A ↦ Tree.Written (plain A.now) | None ↦ Tree.Missing x.place ])
      (bound (row_node p) (elim o as (λ _. List Bound) [ Some A ↦ map (typed (plain A.now)) xs | None ↦ map untyped xs ] ++ far) t)
      ≡ bound (row_node p) (elim o as (λ _. List Bound) [ Some A ↦ map (typed (plain A.now)) ns | None ↦ map untyped ns ] ++ far) t
  unfolding bound
  first_tree None ns e = ap (λ z. bound (row_node p) (map untyped z ++ far) t) (sym e)
  first_tree (Some A) ns e = ap (λ z. bound (row_node p) (map (typed (plain A.now)) z ++ far) t) (sym e)

-- a row that binds nothing is its rest
pub far_none : (p : Bool) (gs : List Binders) (t : Tree.Surface) → length gs ≡ 0 → bound (row_node p) (joined (map plain_binders gs)) t ≡ t
unfolding bound
far_none p [] t e = refl
far_none p (g ∷ gs) t e = absurd (omega (arith, e))

-- a function without arguments is itself
pub apply_none : (f : Surface) (as_ : List Surface) → length as_ ≡ 0 → plain (Apply f as_) ≡ plain f
unfolding applied
apply_none f [] e = plain_apply f []
apply_none f (a ∷ as_) e = absurd (omega (arith, e))
