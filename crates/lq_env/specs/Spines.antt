-- Applications of a family, and how large terms are together.
use Rattle.std.specs.Prelude.{◌≡◌, ℕ, ◌+◌, Bool, true, false, Some, None, not, eqb, ◌&&◌, List, [], ◌∷◌, length, take, drop}
use Rattle.lq_trees.specs.Tree.{Name, Tree, same_name}
use Rattle.lq_trees.specs.Tree.Tree.{Var, Ind}
use Rattle.lq_trees.specs.Size.{size}
use Rattle.lq_calculus.specs.Declarations.{Family, are_variables, any_holds, own}

-- how many nodes trees have together
abbrev pub heft : List Tree → ℕ
heft [] = 0
heft (t ∷ ts) = size t + heft ts

-- whether a tree is the hypothesis of that name
unfoldable pub is_variable : Name → Tree → Bool
is_variable x (Var y) = same_name x y
is_variable x _ = false

-- whether a head with its arguments is the family applied to exactly its parameters and to indices without it
unfoldable pub is_instance : Family → Tree → List Tree → Bool
is_instance f (Ind c) args =
    same_name f.name c && are_variables f.parameters (take (length f.parameters) args) && eqb (length (drop (length f.parameters) args)) (length f.indices)
    && not (any_holds c (drop (length f.parameters) args))
is_instance f _ args = false

-- the answer to whether a tree is the family's
abbrev pub IsOwnBy : Family → Tree → Bool → Type 0
IsOwnBy f t true = (ts : List Tree) × (own f t ≡ Some ts)
IsOwnBy f t false = own f t ≡ None
