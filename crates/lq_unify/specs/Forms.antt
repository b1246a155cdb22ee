-- The parts of two terms by their forms.
use Rattle.std.specs.Prelude.{◌≡◌, Bool, false, ◌&&◌, eqb, List, [], ◌∷◌, ◌++◌, Option, Some, None, option_map, IfSome}
use Rattle.std.specs.List.{AllByRecursion}
use Rattle.lq_trees.specs.Tree.{Tree, Context, same_name}
use Rattle.lq_trees.specs.Tree.Tree.{Var, Sort, Const, Ind, Ctor, Elim}
use Rattle.lq_terms.specs.Terms.{Terms, tree_of}
use Rattle.lq_terms.specs.Contexts.{HasAllOf, hypothesis_of}
use Rattle.lq_calculus.specs.Checking.{same_sort}
use Rattle.lq_solving.specs.Unification.{Sides, sides}
use Rattle.lq_unify.specs.declared.pairs.Under.{Under}
use Rattle.lq_unify.specs.declared.pairs.Pair.{Pair}
use Rattle.lq_unify.specs.declared.forms.Form.{Form}
use Rattle.lq_unify.specs.Pairs.{pairs_in, HasPair}

-- what is under a binder, as sides
abbrev pub under_in : Terms → Context → Option Under → List Sides
under_in bank g None = []
under_in bank g (Some u) = sides (g ++ (hypothesis_of bank u.variable ∷ [])) (tree_of bank u.pair.left) (tree_of bank u.pair.right) ∷ []

-- the sides that parts stand for
abbrev pub form_in : Terms → Context → Form → List Sides
form_in bank g f = pairs_in bank g f.pairs.items ++ under_in bank g f.under

-- the bank has what is under a binder
abbrev pub HasUnder : Terms → Option Under → Type 0
HasUnder bank None = Unit {0}
HasUnder bank (Some u) = HasAllOf bank u.variable × HasPair bank u.pair

-- these parts lie in the bank, and stand for those sides
pub record IsFormOf (bank : Terms) (g : Context) (f : Form) (ps : List Sides) : Type 0 where
  pub pairs : AllByRecursion (HasPair bank) f.pairs.items
  pub under : HasUnder bank f.under
  pub are : form_in bank g f ≡ ps

-- whether two trees are the same sort, or the same leaf
unfoldable pub same_leaf : Tree → Tree → Bool
same_leaf (Var x) (Var y) = same_name x y
same_leaf (Sort s) (Sort t) = same_sort s t
same_leaf (Const c) (Const d) = same_name c d
same_leaf (Ind c) (Ind d) = same_name c d
same_leaf (Ctor c k) (Ctor d l) = same_name c d && eqb k l
same_leaf (Elim c s) (Elim d t) = same_name c d && same_sort s t
same_leaf _ _ = false

-- the bank has these parts
pub record HasForm (bank : Terms) (f : Form) : Type 0 where
  pub pairs : AllByRecursion (HasPair bank) f.pairs.items
  pub under : HasUnder bank f.under

-- the parts that there are, if there are some, lie in the bank and stand for those sides
abbrev pub FormIs : Terms → Context → Option Form → Option (List Sides) → Type 0
FormIs bank g None o = o ≡ None
FormIs bank g (Some f) o = HasForm bank f × (o ≡ Some (form_in bank g f))

-- the pairs that there are, if there are some, lie in the bank and stand for those sides
pub record PairsAre (bank : Terms) (g : Context) (ps : Option (List Pair)) (o : Option (List Sides)) : Type 0 where
  pub has : IfSome ps (AllByRecursion (HasPair bank))
  pub are : option_map (pairs_in bank g) ps ≡ o
