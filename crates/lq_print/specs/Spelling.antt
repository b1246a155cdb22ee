-- How a term is spelled from right to left: the names in it, which binders are used, and its pieces, each node behind its parts.
use Rattle.std.specs.Prelude.{ℕ, zero, suc, Bool, true, false, List, [], ◌∷◌, ◌++◌, length, drop, take}
use Rattle.lq_trees.specs.declared.Sort.{Sort as Universe}
use Rattle.lq_trees.specs.Tree.{Name, Tree, Trees, none, more}
use Rattle.lq_trees.specs.Tree.Tree.{Rel, Var, Sort, Prod, Lam, Let, App, Const, Ind, Ctor, Elim, Evar}
use Rattle.lq_calculus.specs.Declarations.{Env}
use Rattle.lq_texts.specs.Printing.{constructor_name, eliminator_text}

-- a binder: its own name, whether the body uses it, and the names in the body
pub record Over : Type 0 where
  pub own : Name
  pub used : Bool
  pub inside : List Name

-- a node of a term as it is printed
pub data Shown : Type 0 where
  bound : ℕ → Shown
  named : Name → Shown
  sort : Universe → Shown
  applied : Shown
  product : Over → Shown
  function : Over → Shown
  local : Over → Shown
  unknown : ℕ → Shown

-- what has been spelled: the names, whether each binder round the place is used, the nearest first, and the pieces
pub record Spelled : Type 0 where
  pub names : List Name
  pub flags : List Bool
  pub pieces : List Shown

-- the binder of that number is used
abbrev pub marked : ℕ → List Bool → List Bool
marked i [] = []
marked zero (b ∷ bs) = true ∷ bs
marked (suc i) (b ∷ bs) = b ∷ marked i bs

abbrev pub nearest : List Bool → Bool
nearest [] = false
nearest (b ∷ bs) = b

abbrev pub outer : List Bool → List Bool
outer [] = []
outer (b ∷ bs) = bs

-- one piece more
abbrev pub emit : Shown → Spelled → Spelled
emit p s = record { names = s.names; flags = s.flags; pieces = s.pieces ++ p ∷ [] }

-- a name more, which is a piece
abbrev pub put_name : Name → Spelled → Spelled
put_name x s = record { names = s.names ++ x ∷ []; flags = s.flags; pieces = s.pieces ++ named x ∷ [] }

-- a bound variable
abbrev pub put_bound : ℕ → Spelled → Spelled
put_bound i s = record { names = s.names; flags = marked i s.flags; pieces = s.pieces ++ bound i ∷ [] }

-- under one more binder, and back
abbrev pub enter : Spelled → Spelled
enter s = record { names = s.names; flags = false ∷ s.flags; pieces = s.pieces }

abbrev pub leave : Spelled → Spelled
leave s = record { names = s.names; flags = outer s.flags; pieces = s.pieces }

-- the binder over a body that is spelled, where there were so many names before it
abbrev pub over : Name → ℕ → Spelled → Over
over x low s = record { own = x; used = nearest s.flags; inside = drop low s.names }

-- the first so many pieces, and a variable
abbrev pub hide : ℕ → ℕ → Spelled → Spelled
hide n k s = record { names = s.names; flags = s.flags; pieces = take k s.pieces ++ unknown n ∷ [] }

abbrev mutual
  pub spell : Env → Tree → Spelled → Spelled
  spell env (Rel i) s = put_bound i s
  spell env (Var x) s = put_name x s
  spell env (Sort u) s = emit (sort u) s
  spell env (Prod x A B) s = let b = spell env B (enter s) in emit (product (over x (length s.names) b)) (spell env A (leave b))
  spell env (Lam x A t) s = let b = spell env t (enter s) in emit (function (over x (length s.names) b)) (spell env A (leave b))
  spell env (Let x v A t) s =
      let b = spell env t (enter s) in emit (local (over x (length s.names) b)) (spell env A (spell env v (leave b)))
  spell env (App f a) s = emit applied (spell env f (spell env a s))
  spell env (Const c) s = put_name c s
  spell env (Ind c) s = put_name c s
  spell env (Ctor c k) s = put_name (constructor_name env c k) s
  spell env (Elim c u) s = put_name (eliminator_text c u) s
  spell env (Evar n ts) s = hide n (length s.pieces) (spell_each env ts s)

  -- the entries of an instance, the last one first
  pub spell_each : Env → Trees → Spelled → Spelled
  spell_each env none s = s
  spell_each env (more t ts) s = spell env t (spell_each env ts s)
