-- The parts of a tree, and a tree with other parts in their places.
use Rattle.std.specs.Prelude.{ℕ, ◌+◌, List, [], ◌∷◌}
use Rattle.lq_trees.specs.Tree.{Tree}
use Rattle.lq_trees.specs.Tree.Tree.{Rel, Var, Sort, Prod, Lam, Let, App, Const, Ind, Ctor, Elim, Evar}
use Rattle.lq_trees.specs.Reading.{entries}
use Rattle.lq_trees.specs.Size.{size}
use Rattle.lq_solving.specs.Stores.{instance_list}

-- the parts of a tree, from the left
unfoldable pub parts_of : Tree → List Tree
parts_of (Rel i) = []
parts_of (Var x) = []
parts_of (Sort s) = []
parts_of (Prod x A B) = A ∷ B ∷ []
parts_of (Lam x A t) = A ∷ t ∷ []
parts_of (Let x v A t) = v ∷ A ∷ t ∷ []
parts_of (App f a) = f ∷ a ∷ []
parts_of (Const c) = []
parts_of (Ind c) = []
parts_of (Ctor c k) = []
parts_of (Elim c s) = []
parts_of (Evar n ts) = entries ts

-- a tree with these parts in the places of its own
unfoldable pub with_parts : Tree → List Tree → Tree
with_parts (Prod x A B) (C ∷ D ∷ []) = Prod x C D
with_parts (Lam x A t) (C ∷ u ∷ []) = Lam x C u
with_parts (Let x v A t) (w ∷ C ∷ u ∷ []) = Let x w C u
with_parts (App f a) (g ∷ b ∷ []) = App g b
with_parts (Evar n ts) us = Evar n (instance_list us)
with_parts t us = t

-- how many nodes trees have together
abbrev pub heft : List Tree → ℕ
heft [] = 0
heft (t ∷ ts) = size t + heft ts
