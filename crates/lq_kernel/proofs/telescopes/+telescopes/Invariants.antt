use Rattle.std.proofs.Common.{◌+◌, ◌*◌}
use Rattle.lq_trees.specs.Size.{size}
use Rattle.lq_terms.specs.Terms.{tree_of}
use Rattle.lq_kernel.proofs.telescopes.+telescopes.Given as goal

abbrev pub decreases-telescope_sort : goal.decreases-telescope_sort
decreases-telescope_sort g l = 2 * size (tree_of l.work.now.bank.now l.term)

abbrev pub decreases-telescope_inside : goal.decreases-telescope_inside
decreases-telescope_inside g l = 2 * size (tree_of l.work.now.bank.now l.rest) + 1
