-- How the store goes back to what it was.
use Rattle.std.specs.Prelude.{Option, Some, None}
use Rattle.lq_evars.specs.Places.{Places, GivesMore}

-- the store, or the one that was kept, has only values more than the one before
abbrev pub Restores : (before : Places) → Option Places → Places → Type 0
Restores before None s = GivesMore before s
Restores before (Some c) s = GivesMore before c
