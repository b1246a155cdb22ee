-- What is asked of terms, contexts and of what waits, as they are kept in a store.
use Rattle.std.specs.Prelude.{◌≡◌, List, [], ◌∷◌, ◌++◌}
use Rattle.lq_trees.specs.declared.Fit.{Fit}
use Rattle.lq_trees.specs.Tree.{Name, Tree, Context}
use Rattle.lq_trees.specs.Size.{fit}
use Rattle.lq_trees.specs.Index.{Within}
use Rattle.lq_trees.specs.Hypotheses.{HoldsOnly}
use Rattle.lq_solving.specs.Stores.{Store, names_in, read}
use Rattle.lq_solving.specs.Kept.{IsOver, IsContext, StandsIn}
use Rattle.lq_typing.specs.Typing.{Part, product_domain, product_rest, function_domain, function_rest, definition_kind, definition_value, definition_rest, applied_function, applied_argument, shorter, outside}

-- a term below one binder that stands in a context
pub record RestStands (s : Store) (g : Context) (t : Tree) : Type 0 where
  pub over : IsOver s.variables t
  pub within : Within 1 t
  pub holds : HoldsOnly (names_in g) (read s t)

-- a context whose last hypothesis has that name
abbrev pub EndsIn : Context → Name → Type 0
EndsIn g y = names_in g ≡ names_in (shorter g) ++ y ∷ []

-- what waits, by the context of the part whose type it waits for
abbrev pub PartStands : Store → Context → Part → Type 0
PartStands s g (product_domain x A B) = StandsIn s g A × RestStands s g B
PartStands s g (product_rest u) = Unit {0}
PartStands s g (function_domain x A t) = StandsIn s g A × RestStands s g t
PartStands s g (function_rest x y A) = EndsIn g y × StandsIn s (shorter g) A
PartStands s g (definition_kind x v A t) = StandsIn s g v × StandsIn s g A × RestStands s g t
PartStands s g (definition_value x v A t) = StandsIn s g v × StandsIn s g A × RestStands s g t
PartStands s g (definition_rest y v) = EndsIn g y × StandsIn s (shorter g) v
PartStands s g (applied_function a) = StandsIn s g a
PartStands s g (applied_argument a D R) = StandsIn s g a × StandsIn s g D × RestStands s g R × (read s D ≡ D) × (read s R ≡ R)

-- all that waits, the nearest first
abbrev pub PartsStand : Store → Context → List Part → Type 0
PartsStand s g [] = Unit {0}
PartsStand s g (w ∷ ws) = PartStands s g w × PartsStand s (outside w g) ws

-- the type of a term is to be found
pub record Asked (s : Store) (ws : List Part) (g : Context) (t : Tree) : Type 0 where
  pub context : IsContext s g
  pub term : StandsIn s g t
  pub parts : PartsStand s g ws

-- a type, as read and within the limits, was found
pub record Typed (s : Store) (ws : List Part) (g : Context) (T : Tree) : Type 0 where
  pub context : IsContext s g
  pub kind : StandsIn s g T
  pub reads : read s T ≡ T
  pub fits : fit T ≡ Fit.Fits
  pub parts : PartsStand s g ws
