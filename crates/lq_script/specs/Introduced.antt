-- A goal that is reached from a statement by introducing names, and the term that proves the statement then.
use Rattle.std.specs.Prelude.{◌≡◌, List, [], ◌∷◌, map, false}
use Rattle.lq_trees.specs.Tree.{Name, Tree, Context}
use Rattle.lq_trees.specs.Fresh.{is_listed, opened, under}

-- the names of a context
abbrev pub names_of : Context → List Name
names_of g = map (λ h. h.name) g

-- the goal with that context and that conclusion is reached from the statement by introducing new names
pub data Introduced (A : Tree) : Context → Tree → Type 0 where
  from_statement : Introduced A [] A
  one_more : (g : Context) (x y : Name) (kind rest : Tree) →
      Introduced A g (Tree.Prod y kind rest) → is_listed (names_of g) x ≡ false → Introduced A (under g x kind) (opened x rest)

-- a statement's leading products as abstractions with those names, round a term
abbrev pub abstraction : List Name → Tree → Tree → Tree
abstraction [] A t = t
abstraction (x ∷ xs) (Tree.Prod y kind rest) t = Tree.Lam x kind (abstraction xs rest t)
abstraction (x ∷ xs) _ t = t
