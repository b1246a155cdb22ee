-- The place of a name behind one more name.
use Rattle.std.specs.Prelude.{ℕ, suc, Bool, true, false, Option, Some, None}

-- here, or one further
abbrev pub next_place : Bool → Option ℕ → Option ℕ
next_place true o = Some 0
next_place false None = None
next_place false (Some i) = Some (suc i)
