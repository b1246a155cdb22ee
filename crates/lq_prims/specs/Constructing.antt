-- Constructors of the goal's type, by their numbers.
use Rattle.std.specs.Prelude.{ℕ, Option, Some, None}
use Rattle.lq_trees.specs.Tree.{Context}
use Rattle.lq_trees.specs.Ticks.{gives, ◌>>=◌}
use Rattle.lq_terms.specs.Terms.{Terms, tree_of}
use Rattle.lq_solving.specs.Stores.{Store}
use Rattle.lq_solving.specs.Kept.{StandsIn}
use Rattle.lq_solving.specs.Elaboration.{Found}
use Rattle.lq_tactics.specs.Rows.{Doing, Scene, Done}
use Rattle.lq_tactics.specs.Applying.{Inductive, goal_inductive, has_number, numbered}
use Rattle.lq_prims.specs.declared.inductives.Typed.{Typed}
use Rattle.lq_prims.specs.Inductives.{numbered_work}

-- the type has as many constructors as are wanted, if that is asked for
unfoldable pub wanted_work : Option ℕ → Inductive → Doing Inductive
wanted_work None i = gives i
wanted_work (Some n) i = has_number n i

-- constructor n of an inductive type, counted from 1, with its type, where that has as many constructors as are wanted
abbrev pub picked_work : Scene → Option ℕ → Inductive → ℕ → Doing Found
picked_work c w i n = wanted_work w i >>= λ j. numbered_work c j n

-- constructor n of the goal's type, with its type
unfoldable pub constructor_work : Scene → Option ℕ → ℕ → Doing Found
constructor_work c w n = goal_inductive c >>= wanted_work w >>= λ i. numbered_work c i n

-- constructor n of the goal's type, applied to the goal
unfoldable pub constructor_row : Scene → Option ℕ → ℕ → Doing Done
constructor_row c w n = goal_inductive c >>= wanted_work w >>= λ i. numbered c i n

-- a term and its type stand in a context
abbrev pub StandsTyped : Terms → Store → Context → Typed → Type 0
StandsTyped bank s g f = StandsIn s g (tree_of bank f.term) × StandsIn s g (tree_of bank f.kind)
