-- Products over binders, and the binders that a context gives.
use Rattle.std.specs.Prelude.{◌≡◌, ℕ, ◌+◌, false, List, [], ◌∷◌, ◌++◌, map, length, zip}
use Rattle.lq_trees.specs.Tree.{Name, Tree, Context, same_name}
use Rattle.lq_trees.specs.Tree.Tree.{Prod}
use Rattle.lq_trees.specs.Change.{put}
use Rattle.lq_trees.specs.Size.{size}
use Rattle.lq_trees.specs.Index.{Within}
use Rattle.lq_calculus.specs.Declarations.{count_down}

-- binders with their types, the outermost first
abbrev pub Binders : Type 0
Binders = List (Name × Tree)

-- the products over binders
abbrev pub telescope : Binders → Tree → Tree
telescope [] t = t
telescope (b ∷ bs) t = Prod b.0 b.1 (telescope bs t)

-- how many nodes binders have with their types
abbrev pub span : Binders → ℕ
span [] = 0
span (b ∷ bs) = 1 + size b.1 + span bs

-- the names of a context, each with the bound variable that it is under all of its binders
unfoldable pub places_of : Context → List (Name × Tree)
places_of g = zip (map (λ h. h.name) g) (count_down (length g))

-- the binders of a context behind another one
abbrev pub binders_behind : Context → Context → Binders
binders_behind before [] = []
binders_behind before (h ∷ g) = (h.name, put (places_of before) 0 h.kind) ∷ binders_behind (before ++ h ∷ []) g

-- how many nodes the binders of a context have
abbrev pub weight_of : Context → ℕ
weight_of [] = 0
weight_of (h ∷ g) = 1 + size h.kind + weight_of g

-- the name is none of the context's
abbrev pub Apart : Name → Context → Type 0
Apart x [] = Unit {0}
Apart x (h ∷ g) = (same_name x h.name ≡ false) × Apart x g

-- each name is apart from those behind it, and no type has loose bound variables
abbrev pub AreApart : Context → Type 0
AreApart [] = Unit {0}
AreApart (h ∷ g) = Within 0 h.kind × Apart h.name g × AreApart g
