use Rattle.lq_terms.specs.Terms.{tree_of}
use Rattle.lq_terms.proofs.Tellings.{HasContext-grown}
use Rattle.lq_elab.proofs.ShutSteps.{filled_index, holds_later}
use Rattle.lq_elab.proofs.shutting.filled.Goals as goal

pub subst-requires-clause-index : goal.subst-requires-clause-index
subst-requires-clause-index c = filled_index (tree_of c.args.bank.now c.args.value) (tree_of c.args.bank.now c.args.rest) c.requires.within c.requires.closed

pub filled_wide-requires-clause-context : goal.filled_wide-requires-clause-context
filled_wide-requires-clause-context c = HasContext-grown c.args.bank.now c.subst.new.bank c.in-Err-TooLarge.ensures.grows c.args.context.now c.requires.context

pub filled_wide-requires-clause-holds : goal.filled_wide-requires-clause-holds
filled_wide-requires-clause-holds c = holds_later c.args.bank.now c.subst.new.bank c.in-Err-TooLarge.ensures.grows c.args.context.now c.requires.context c.args.rest c.requires.rest c.requires.holds

pub filled_wide-requires-in-Err-TooDeep-clause-context : goal.filled_wide-requires-in-Err-TooDeep-clause-context
filled_wide-requires-in-Err-TooDeep-clause-context c = HasContext-grown c.args.bank.now c.subst.new.bank c.in-Err-TooDeep.ensures.grows c.args.context.now c.requires.context

pub filled_wide-requires-in-Err-TooDeep-clause-holds : goal.filled_wide-requires-in-Err-TooDeep-clause-holds
filled_wide-requires-in-Err-TooDeep-clause-holds c = holds_later c.args.bank.now c.subst.new.bank c.in-Err-TooDeep.ensures.grows c.args.context.now c.requires.context c.args.rest c.requires.rest c.requires.holds
