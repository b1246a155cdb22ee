-- Two trees are equal where their heads are and their parts are, pairwise.
use Rattle.std.specs.Prelude.{ℕ, suc, Bool, true, false, ◌&&◌, eqb, List, [], ◌∷◌}
use Rattle.lq_trees.specs.declared.Sort.{Sort as Universe}
use Rattle.lq_trees.specs.Tree.{Name, Tree, Trees, same_name, none, more}
use Rattle.lq_trees.specs.Tree.Tree.{Rel, Var, Sort, Prod, Lam, Let, App, Const, Ind, Ctor, Elim, Evar}
use Rattle.lq_calculus.specs.Checking.{same_sort}
use Rattle.lq_trees.specs.Reading.{entries}
use Rattle.lq_solving.specs.Alike.{same_tree}

-- what a tree is without its parts and the names of binders
pub data Head : Type 0 where
  bound : (index : ℕ) → Head
  hypothesis : (name : Name) → Head
  sort : (sort : Universe) → Head
  product : Head
  function : Head
  definition : Head
  application : Head
  constant : (name : Name) → Head
  family : (name : Name) → Head
  constructor : (name : Name) (index : ℕ) → Head
  eliminator : (name : Name) (sort : Universe) → Head
  unknown : (index many : ℕ) → Head

-- how many entries an instance has
abbrev pub how_many : Trees → ℕ
how_many none = 0
how_many (more t ts) = suc (how_many ts)

abbrev pub head_of : Tree → Head
head_of (Rel i) = bound i
head_of (Var x) = hypothesis x
head_of (Sort s) = sort s
head_of (Prod x A B) = product
head_of (Lam x A t) = function
head_of (Let x v A t) = definition
head_of (App f a) = application
head_of (Const c) = constant c
head_of (Ind c) = family c
head_of (Ctor c k) = constructor c k
head_of (Elim c s) = eliminator c s
head_of (Evar n ts) = unknown n (how_many ts)

-- whether two heads are equal
abbrev pub same_head : Head → Head → Bool
same_head (bound i) (bound j) = eqb i j
same_head (hypothesis x) (hypothesis y) = same_name x y
same_head (sort s) (sort t) = same_sort s t
same_head product product = true
same_head function function = true
same_head definition definition = true
same_head application application = true
same_head (constant c) (constant d) = same_name c d
same_head (family c) (family d) = same_name c d
same_head (constructor c k) (constructor d l) = same_name c d && eqb k l
same_head (eliminator c s) (eliminator d t) = same_name c d && same_sort s t
same_head (unknown n k) (unknown m l) = eqb n m && eqb k l
same_head _ _ = false

-- the parts of a tree
abbrev pub parts_in : Tree → List Tree
parts_in (Rel i) = []
parts_in (Var x) = []
parts_in (Sort s) = []
parts_in (Prod x A B) = A ∷ B ∷ []
parts_in (Lam x A t) = A ∷ t ∷ []
parts_in (Let x v A t) = v ∷ A ∷ t ∷ []
parts_in (App f a) = f ∷ a ∷ []
parts_in (Const c) = []
parts_in (Ind c) = []
parts_in (Ctor c k) = []
parts_in (Elim c s) = []
parts_in (Evar n ts) = entries ts

-- whether the trees of two lists are equal, pairwise
abbrev pub all_equal : List Tree → List Tree → Bool
all_equal (t ∷ ts) (u ∷ us) = same_tree t u && all_equal ts us
all_equal _ _ = true
