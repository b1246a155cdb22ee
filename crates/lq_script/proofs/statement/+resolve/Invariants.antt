use Rattle.std.proofs.Common.{◌+◌, ◌*◌, max}
use Rattle.lq_output.specs.Nesting.{nesting}
use Rattle.lq_script.specs.Syntax.{plain_surface}
use Rattle.lq_script.proofs.statement.+resolve.Given as goal

abbrev pub decreases-resolve : goal.decreases-resolve
decreases-resolve l = 3 * nesting (plain_surface l.surface.now)

abbrev pub decreases-product : goal.decreases-product
decreases-product l = 3 * max (nesting (plain_surface l.kind.now)) (nesting (plain_surface l.rest.now)) + 2

abbrev pub decreases-resolve_under : goal.decreases-resolve_under
decreases-resolve_under l = 3 * nesting (plain_surface l.surface.now) + 1
