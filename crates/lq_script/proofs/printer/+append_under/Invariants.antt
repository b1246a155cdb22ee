use Rattle.std.proofs.Common.{◌+◌, ◌*◌}
use Rattle.lq_trees.specs.Size.{size}
use Rattle.lq_terms.specs.Terms.{tree_of}
use Rattle.lq_script.proofs.printer.+append_under.Given as goal

abbrev pub decreases-append_under : goal.decreases-append_under
decreases-append_under l = 4 * size (tree_of l.bank.now l.term)

abbrev pub decreases-append_product : goal.decreases-append_product
decreases-append_product l = 4 * (size (tree_of l.bank.now l.product.kind) + size (tree_of l.bank.now l.product.rest)) + 3

abbrev pub decreases-append_forall : goal.decreases-append_forall
decreases-append_forall l = 4 * (size (tree_of l.bank.now l.product.kind) + size (tree_of l.bank.now l.product.rest)) + 2

abbrev pub decreases-append_arrow : goal.decreases-append_arrow
decreases-append_arrow l = 4 * (size (tree_of l.bank.now l.product.kind) + size (tree_of l.bank.now l.product.rest)) + 2

abbrev pub decreases-append_left : goal.decreases-append_left
decreases-append_left l = 4 * size (tree_of l.bank.now l.kind) + 1

abbrev pub decreases-append_below : goal.decreases-append_below
decreases-append_below l = 4 * size (tree_of l.bank.now l.rest) + 1
