use Rattle.std.proofs.Common.{arith}
use Rattle.lq_terms.specs.Terms.{tree_of}
use Rattle.lq_kernel.proofs.Trees.{index-subst}
use Rattle.lq_evars.proofs.Growing.{context_grown}
use Rattle.lq_typing.proofs.KindLaws.{within_grown, holds_grown}
use Rattle.lq_typing.proofs.kinds.substituted.Goals as goal

pub subst-requires-clause-index : goal.subst-requires-clause-index
subst-requires-clause-index c = index-subst (tree_of c.args.bank.now c.args.value) (tree_of c.args.bank.now c.args.rest) c.requires.within c.requires.closed

pub put_in-requires : goal.put_in-requires
put_in-requires c = record {
  context = (context_grown c.args.bank.now c.subst.new.bank c.in-Err.ensures.grows c.args.context.now c.requires.context).1;
  rest = omega (arith, c.requires.rest, c.in-Err.ensures.grows.nodes);
  within = within_grown c.args.bank.now c.subst.new.bank c.in-Err.ensures.grows 1 c.args.rest c.requires.rest c.requires.within;
  holds = holds_grown c.args.bank.now c.subst.new.bank c.in-Err.ensures.grows c.args.context.now c.requires.context c.args.rest c.requires.rest c.requires.holds;
  value = omega (arith, c.requires.value, c.in-Err.ensures.grows.nodes);
  closed = within_grown c.args.bank.now c.subst.new.bank c.in-Err.ensures.grows 0 c.args.value c.requires.value c.requires.closed;
}
