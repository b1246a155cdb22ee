-- What a sentence may be refused for.
use Rattle.std.specs.Prelude.{ℕ}
use Rattle.lq_trees.specs.Tree.{Tree}

pub data Fault : Type 0 where
  -- no sentence of the grammar in its place, or another fault than those below
  not_built : Fault
  -- a term has the first type, and the second was wanted
  differs : (found wanted : Tree) → Fault
  -- so many goals are open
  open_goals : ℕ → Fault
