-- The shapes of nodes, and the classes that they give.
use Rattle.std.specs.Prelude.{◌≡◌, ℕ, List, map, slice_get, Some}
use Rattle.lq_terms.specs.declared.nodes.Node.{Node}
use Rattle.lq_terms.specs.declared.nodes.TermId.{TermId}
use Rattle.lq_terms.specs.declared.classes.Shape.{Shape}

-- nothing stands at two places
abbrev pub AreDistinct : {X : Type 0} → List X → Type 0
AreDistinct xs = (i j : ℕ) (x : _) → slice_get xs i ≡ Some x → slice_get xs j ≡ Some x → i ≡ j

-- a node without its binder's name, by the classes of its parts
abbrev pub shape_by : (TermId → ℕ) → Node → Shape
shape_by class (Node.Rel n) = Shape.Rel n
shape_by class (Node.Var x) = Shape.Var x
shape_by class (Node.Sort s) = Shape.Sort s
shape_by class (Node.Prod x kind rest) = Shape.Prod (class kind) (class rest)
shape_by class (Node.Lam x kind rest) = Shape.Lam (class kind) (class rest)
shape_by class (Node.Let x value kind rest) = Shape.Let (class value) (class kind) (class rest)
shape_by class (Node.App function argument) = Shape.App (class function) (class argument)
shape_by class (Node.Const x) = Shape.Const x
shape_by class (Node.Ind x) = Shape.Ind x
shape_by class (Node.Ctor x n) = Shape.Ctor x n
shape_by class (Node.Elim x s) = Shape.Elim x s
shape_by class (Node.Evar n parts) = Shape.Evar n (map class parts)
