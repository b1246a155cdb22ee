-- What is asked of terms and contexts that are kept.
use Rattle.std.specs.Prelude.{List, [], ◌∷◌}
use Rattle.lq_trees.specs.Tree.{Name, Tree}
use Rattle.lq_trees.specs.Index.{Within}
use Rattle.lq_trees.specs.Hypotheses.{HoldsOnly}
use Rattle.lq_solving.specs.Stores.{Store, read}
use Rattle.lq_solving.specs.Kept.{IsOver, Stands, IsContext, StandsIn}
use Rattle.lq_solving.specs.Unification.{Sides}

-- a term below one binder that stands among hypotheses of these names
pub record RestStands (s : Store) (xs : List Name) (t : Tree) : Type 0 where
  pub over : IsOver s.variables t
  pub within : Within 1 t
  pub holds : HoldsOnly xs (read s t)

-- each of several terms stands
abbrev pub EachStands : Store → List Name → List Tree → Type 0
EachStands s xs [] = Unit {0}
EachStands s xs (t ∷ ts) = Stands s xs t × EachStands s xs ts

-- two sides stand in their context
pub record SidesStand (s : Store) (p : Sides) : Type 0 where
  pub context : IsContext s p.context
  pub left : StandsIn s p.context p.left
  pub right : StandsIn s p.context p.right

-- each of several does
abbrev pub AllStand : Store → List Sides → Type 0
AllStand s [] = Unit {0}
AllStand s (p ∷ ps) = SidesStand s p × AllStand s ps
