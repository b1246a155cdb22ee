-- The laws of shapes.
use Rattle.std.proofs.Common.{◌≡◌, ℕ, Bool, true, List, [], ◌∷◌, map, refl, sym, arith}
use Rattle.std.specs.List.{AllByRecursion, IsDistinct}
use Rattle.std.proofs.lemmas.Cmp.{nat_list_eq_equiv}
use Rattle.std.specs.Cmp.Lexicographic.{same_text}
use Rattle.lq_trees.specs.Tree.{Tree}
use Rattle.lq_trees.specs.Same.{nameless, each_nameless}
use Rattle.lq_terms.specs.contracts.classes.ClassesPartialEq.TheImpl as classes_comparison
use Rattle.lq_terms.specs.contracts.classes.ShapePartialEq.TheImpl as shape_comparison
use Rattle.lq_terms.specs.declared.nodes.NameId.{NameId}
use Rattle.lq_terms.specs.declared.nodes.TermId.{TermId}
use Rattle.lq_terms.specs.declared.nodes.Node.{Node}
use Rattle.lq_terms.specs.declared.classes.Shape.{Shape}
use Rattle.lq_terms.specs.Shapes.{AreDistinct, shape_by}
use Rattle.lq_terms.proofs.Keys.{distinct_keys}
use Rattle.lq_terms.specs.Terms.{trees_by, node_by, EachPart}

-- what `==` answers of two shapes
abbrev pub shapes_eq : Shape → Shape → Bool
shapes_eq = (shape_comparison.ghosts).eq

classes_exact : (xs ys : List ℕ) → (classes_comparison.ghosts).eq xs ys ≡ true → xs ≡ ys
classes_exact xs ys h = same_text xs ys (sym h)

evar_exact : (m n : ℕ) (xs ys : List ℕ) → shapes_eq (Shape.Evar m xs) (Shape.Evar n ys) ≡ true → Shape.Evar m xs ≡ Shape.Evar n ys
evar_exact m n xs ys h =
    let both : (m ≡ n) × ((classes_comparison.ghosts).eq xs ys ≡ true) = grind arith in
    let parts : xs ≡ ys = classes_exact xs ys both.1 in
    cc

pub exact : (a b : Shape) → shapes_eq a b ≡ true → a ≡ b
exact a b h = grind (arith, evar_exact)

-- a shape is equal to itself
classes_own : (xs : List ℕ) → (classes_comparison.ghosts).eq xs xs ≡ true
classes_own xs = nat_list_eq_equiv.refl xs

pub own : (a : Shape) → shapes_eq a a ≡ true
own a = grind (arith, classes_own)

-- no key of a set of shapes stands twice
pub distinct_shapes : (shapes : List Shape) → IsDistinct shapes_eq shapes → AreDistinct shapes
distinct_shapes = distinct_keys shapes_eq own

module _ (text : NameId → List ℕ) (tree : TermId → Tree) (class : TermId → ℕ) (N : NameId → Type 0) (T : TermId → Type 0) where
  module _ (alike : (t u : TermId) → T t → T u → class t ≡ class u → nameless (tree t) ≡ nameless (tree u)) where
    each_alike : (ts us : List TermId) → AllByRecursion T ts → AllByRecursion T us → map class ts ≡ map class us → each_nameless (trees_by tree ts) ≡ each_nameless (trees_by tree us)
    each_alike [] [] h k e = refl
    each_alike [] (u ∷ us) h k e = cc
    each_alike (t ∷ ts) [] h k e = cc
    each_alike (t ∷ ts) (u ∷ us) h k e = rw (alike t u h.0 k.0 cc, each_alike ts us h.1 k.1 cc)

    pub node_alike : (m n : Node) → EachPart N T m → EachPart N T n → shape_by class m ≡ shape_by class n → nameless (node_by text tree m) ≡ nameless (node_by text tree n)
    node_alike m n h k e = grind (arith, alike, each_alike)

  module _ (apart : (x y : NameId) → N x → N y → text x ≡ text y → x ≡ y) (alike : (t u : TermId) → T t → T u → nameless (tree t) ≡ nameless (tree u) → class t ≡ class u) where
    each_class : (ts us : List TermId) → AllByRecursion T ts → AllByRecursion T us → each_nameless (trees_by tree ts) ≡ each_nameless (trees_by tree us) → map class ts ≡ map class us
    each_class [] [] h k e = refl
    each_class [] (u ∷ us) h k e = cc
    each_class (t ∷ ts) [] h k e = cc
    each_class (t ∷ ts) (u ∷ us) h k e = rw (alike t u h.0 k.0 cc, each_class ts us h.1 k.1 cc)

    pub node_shape : (m n : Node) → EachPart N T m → EachPart N T n → nameless (node_by text tree m) ≡ nameless (node_by text tree n) → shape_by class m ≡ shape_by class n
    node_shape m n h k e = grind (arith, apart, alike, each_class)

-- a node's shape depends on the classes of its parts alone
module _ (class class' : TermId → ℕ) (N : NameId → Type 0) (T : TermId → Type 0) (same : (t : TermId) → T t → class' t ≡ class t) where
  classes-same : (ts : List TermId) → AllByRecursion T ts → map class' ts ≡ map class ts
  classes-same [] h = refl
  classes-same (t ∷ ts) h = rw (same t h.0, classes-same ts h.1)

  pub shape_by-same : (n : Node) → EachPart N T n → shape_by class' n ≡ shape_by class n
  shape_by-same n h = grind (arith, same, classes-same)
