-- What a row reaches, by places of a bank.
use Rattle.std.specs.Prelude.{[], ◌∷◌}
use Rattle.lq_terms.specs.Terms.{Terms, tree_of}
use Rattle.lq_evars.specs.Places.{Places, store_of}
use Rattle.lq_tactics.specs.Rows.{Done, done_by}
use Rattle.lq_prims.specs.declared.entering.Reached.{Reached}

-- the store then, the goal's body, and the one new goal
abbrev pub reached_done : Terms → Places → Reached → Done
reached_done bank s r = done_by (store_of bank s) (tree_of bank r.body) (r.goal ∷ [])
