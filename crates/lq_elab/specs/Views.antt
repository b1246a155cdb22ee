-- Terms as they are written, node by node, and the trees that they stand for.
use Rattle.std.specs.Prelude.{Bool, true, false, List, ◌∷◌, ◌++◌, map, Some, None}
use Rattle.lq_trees.specs.Tree.{Name}
use Rattle.lq_ast.specs.Syntax as Tree
use Rattle.lq_ast.specs.Syntax.{Bound, bound, applied}
use Rattle.lq_ast.specs.Plain.{plain, plain_binders, plain_domain, name_of, typed, untyped, joined}
use Rattle.lq_elab.specs.declared.views.Row.{Row}
use Rattle.lq_elab.specs.declared.views.Asked.{Asked}
use Rattle.lq_elab.specs.declared.views.Head.{Head}
use Rattle.lq_elab.specs.declared.views.View.{View}

-- a product or a function
abbrev pub row_node : Bool → Name → Tree.Domain → Tree.Surface → Tree.Surface
row_node true x d t = Tree.Forall x d t
row_node false x d t = Tree.Fun x d t

-- the names of a row that are bound together, and all that it binds
abbrev pub near_bounds : Row → List Bound
near_bounds r = elim r.kind [ Some A ↦ map (typed (plain A.now)) r.names.now | None ↦ map untyped r.names.now ]

abbrev pub far_bounds : Row → List Bound
far_bounds r = joined (map plain_binders r.groups.now)

abbrev pub row_tree : Row → Tree.Surface
row_tree r = bound (row_node r.is_product) (near_bounds r ++ far_bounds r) (plain r.body.now)

-- the same without those that are bound together
abbrev pub far_tree : Row → Tree.Surface
far_tree r = bound (row_node r.is_product) (far_bounds r) (plain r.body.now)

abbrev pub asked_tree : Asked → Tree.Surface
asked_tree (Asked.Term t) = plain t.now
asked_tree (Asked.Row r) = row_tree r

-- the type of a name that is bound, or its place
abbrev pub head_domain : Head → Tree.Domain
head_domain h = elim h.kind [ Some A ↦ Tree.Written (plain A.now) | None ↦ Tree.Missing h.binder.now.place ]

abbrev pub head_tree : Head → Tree.Surface
head_tree h = row_node h.rest.is_product (name_of h.binder.now.name) (head_domain h) (row_tree h.rest)

abbrev pub view_tree : View → Tree.Surface
view_tree (View.Binder h) = head_tree h
view_tree (View.LetIn x d v t) = Tree.LetIn (name_of x.now) (plain_domain d.now) (plain v.now) (plain t.now)
view_tree (View.Arrow A B) = Tree.Arrow (plain A.now) (plain B.now)
view_tree (View.Apply f a as_) = applied (plain f.now) (plain a.now ∷ map plain as_.now)
view_tree (View.Ident x) = Tree.Ident x.now
view_tree (View.Blank p) = Tree.Blank p
view_tree View.PropSort = Tree.PropSort
view_tree (View.TypeSort n) = Tree.TypeSort n
view_tree (View.Cast t A) = Tree.Cast (plain t.now) (plain A.now)
view_tree (View.Meta x) = Tree.Meta x.now
view_tree (View.NewVar x p) = Tree.NewVar x.now p
