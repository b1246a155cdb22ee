-- The variables that a row leaves behind.
use Rattle.std.specs.Prelude.{ℕ, Bool, true, false, not, List}
use Rattle.lq_solving.specs.Stores.{Store, is_open}
use Rattle.lq_states.specs.Goals.{has}

-- whether a variable has no value and is none of the goals
abbrev pub is_left : List ℕ → Store → ℕ → Bool
is_left ks s k = elim (is_open s k) [ true ↦ not (has ks k) | false ↦ false ]
