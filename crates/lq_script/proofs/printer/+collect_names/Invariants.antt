use Rattle.lq_trees.specs.Size.{size}
use Rattle.lq_terms.specs.Terms.{tree_of}
use Rattle.lq_script.proofs.printer.+collect_names.Given as goal

abbrev pub decreases-collect_names : goal.decreases-collect_names
decreases-collect_names l = size (tree_of l.bank.now l.term)
