use Rattle.lq_terms.specs.Terms.{text_of, tree_of}
use Rattle.lq_kernel.proofs.Trees.{index-close}
use Rattle.lq_typing.proofs.ReadingLaws.{not_large, not_deep}
use Rattle.lq_typing.proofs.kinds.closed.Goals as goal

pub close-requires-clause-index : goal.close-requires-clause-index
close-requires-clause-index c = index-close (text_of c.args.bank.now c.args.name) (tree_of c.args.bank.now c.args.kind) c.requires.within

pub unreachable-requires : goal.unreachable-requires
unreachable-requires c = not_large (text_of c.args.bank.now c.args.name) (tree_of c.args.bank.now c.args.kind) c.requires.fits (rw c.in-Err-TooLarge.field-0-is at c.in-Err-TooLarge.ensures.answer)

pub unreachable-requires-in-Err-TooDeep : goal.unreachable-requires-in-Err-TooDeep
unreachable-requires-in-Err-TooDeep c = not_deep (text_of c.args.bank.now c.args.name) (tree_of c.args.bank.now c.args.kind) c.requires.fits (rw c.in-Err-TooDeep.field-0-is at c.in-Err-TooDeep.ensures.answer)
