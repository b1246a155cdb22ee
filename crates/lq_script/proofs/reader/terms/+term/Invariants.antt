-- the levels of nesting that are left, and how far one is at a level
use Rattle.std.proofs.Common.{◌+◌, ◌*◌}
use Rattle.lq_script.proofs.reader.terms.+term.Given as goal

abbrev pub decreases-arrow_behind : goal.decreases-arrow_behind
decreases-arrow_behind l = 4 * l.below + 1

abbrev pub decreases-bracket_behind : goal.decreases-bracket_behind
decreases-bracket_behind l = 4 * l.below + 2

abbrev pub decreases-product_behind : goal.decreases-product_behind
decreases-product_behind l = 4 * l.below + 2

abbrev pub decreases-rest_behind : goal.decreases-rest_behind
decreases-rest_behind l = 4 * l.below + 1

abbrev pub decreases-term : goal.decreases-term
decreases-term l = 4 * l.room

abbrev pub decreases-term_by : goal.decreases-term_by
decreases-term_by l = 4 * l.below + 3
