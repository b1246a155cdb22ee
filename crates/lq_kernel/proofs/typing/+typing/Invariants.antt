use Rattle.std.proofs.Common.{◌+◌, ◌*◌}
use Rattle.lq_trees.specs.Size.{size}
use Rattle.lq_terms.specs.Terms.{tree_of}
use Rattle.lq_kernel.proofs.typing.+typing.Given as goal

abbrev pub decreases-type_of : goal.decreases-type_of
decreases-type_of g l = 6 * size (tree_of l.work.now.bank.now l.term) + 1

abbrev pub decreases-node_type : goal.decreases-node_type
decreases-node_type g l = 6 * size (tree_of l.work.now.bank.now l.term)

abbrev pub decreases-sort_in : goal.decreases-sort_in
decreases-sort_in g l = 6 * size (tree_of l.work.now.bank.now l.term) + 2

abbrev pub decreases-product_in : goal.decreases-product_in
decreases-product_in g l = 6 * size (tree_of l.work.now.bank.now l.term) + 2

abbrev pub decreases-check_in : goal.decreases-check_in
decreases-check_in g l = 6 * size (tree_of l.work.now.bank.now l.term) + 2

abbrev pub decreases-written_in : goal.decreases-written_in
decreases-written_in g l = 6 * size (tree_of l.work.now.bank.now l.term) + 2

abbrev pub decreases-product_type : goal.decreases-product_type
decreases-product_type g l = 6 * (size (tree_of l.work.now.bank.now l.kind) + size (tree_of l.work.now.bank.now l.rest)) + 5

abbrev pub decreases-function_type : goal.decreases-function_type
decreases-function_type g l = 6 * (size (tree_of l.work.now.bank.now l.kind) + size (tree_of l.work.now.bank.now l.rest)) + 5

abbrev pub decreases-definition_type : goal.decreases-definition_type
decreases-definition_type g l = 6 * (size (tree_of l.work.now.bank.now l.value) + size (tree_of l.work.now.bank.now l.kind) + size (tree_of l.work.now.bank.now l.rest)) + 5

abbrev pub decreases-application_type : goal.decreases-application_type
decreases-application_type g l = 6 * (size (tree_of l.work.now.bank.now l.function) + size (tree_of l.work.now.bank.now l.argument)) + 5

abbrev pub decreases-type_inside : goal.decreases-type_inside
decreases-type_inside g l = 6 * size (tree_of l.work.now.bank.now l.rest) + 3

abbrev pub decreases-sort_inside : goal.decreases-sort_inside
decreases-sort_inside g l = 6 * size (tree_of l.work.now.bank.now l.rest) + 3
