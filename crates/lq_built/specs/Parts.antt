-- The parts that are built, as the program has them, and what stands behind a `;`.
use Rattle.std.specs.Prelude.{Bool, ◌&&◌}
use Rattle.std.specs.List.{list_all}
use Rattle.lq_ast.specs.Syntax.{Prim}
use Rattle.lq_ast.specs.Tactics.{Tac, Step, one_step, each_step, fill_step}
use Rattle.lq_sessions.specs.Built.{Parts, is_built}
use Rattle.lq_built.specs.declared.parts.Parts.{Parts as Stated}

-- the parts that the program names
abbrev pub parts_of : Stated → Parts
parts_of p = record { values = p.values; backtracking = p.backtracking; matching = p.matching; focus = p.focus; parallel = p.parallel }

-- whether a primitive of the first table is built
abbrev pub prim_built : Parts → Prim → Bool
prim_built b p = is_built b (Tac.prim p)

-- whether what stands behind a `;` is built
unfoldable pub step_built : Parts → Step → Bool
step_built b (one_step a) = is_built b a
step_built b (each_step as_) = b.values && list_all (is_built b) as_
step_built b (fill_step as_ c ds) = b.values && list_all (is_built b) as_ && is_built b c && list_all (is_built b) ds
