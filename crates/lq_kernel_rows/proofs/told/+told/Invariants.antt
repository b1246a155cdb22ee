use Rattle.std.specs.Prelude.{ℕ, ◌+◌, ◌*◌, max}
use Rattle.lq_kernel_rows.proofs.told.+told.Given as goal

abbrev pub decreases-write_definition : goal.decreases-write_definition
decreases-write_definition l = 3 * max l.value.place (max l.kind.place l.rest.place) + 3

abbrev pub decreases-write_two : goal.decreases-write_two
decreases-write_two l = 3 * max l.first.place l.second.place + 2

abbrev pub decreases-write_term : goal.decreases-write_term
decreases-write_term l = 3 * l.term.place + 1
