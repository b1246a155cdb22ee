use Rattle.lq_terms.specs.Terms.{tree_of}
use Rattle.lq_kernel.proofs.Trees.{index-subst}
use Rattle.lq_kernel.proofs.forms.application_kind.Goals as goal

pub subst-requires-clause-index : goal.subst-requires-clause-index
subst-requires-clause-index c = index-subst (tree_of c.args.bank.now c.args.argument) (tree_of c.args.bank.now c.args.rest) c.requires.rest.within c.requires.argument.within
