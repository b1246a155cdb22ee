use Rattle.std.proofs.Common.{◌≤◌, Err, sym}
use Rattle.std.proofs.Common.{subst as along}
use Rattle.lq_trees.specs.Change.{instance}
use Rattle.lq_trees.specs.Size.{size}
use Rattle.lq_terms.specs.Terms.{tree_of}
use Rattle.lq_terms.specs.Changes.{bindings, Answers}
use Rattle.lq_terms.proofs.Growth.{has-grown}
use Rattle.lq_evars.proofs.Fillings.{filled_fits, names_grown, low_grown, instance_grown, too_deep, deep_near}
use Rattle.lq_evars.proofs.filling.filled_in.Goals as goal

pub instance-requires-clause-index : goal.instance-requires-clause-index
instance-requires-clause-index c =
    filled_fits c.args.bank.now c.args.context.now c.args.entries.now (tree_of c.args.bank.now c.args.body) (c.requires.closed (c.is_over.ensures.within c.if-is_over.false)) c.requires.low

pub deep-requires-clause-context : goal.deep-requires-clause-context
deep-requires-clause-context c = names_grown c.args.bank.now c.instance.new.bank c.args.context.now c.instance.ensures.grows c.requires.context

pub deep-requires-clause-entries : goal.deep-requires-clause-entries
deep-requires-clause-entries c = has-grown c.args.bank.now c.instance.new.bank c.args.entries.now c.instance.ensures.grows c.requires.entries

pub deep-requires-clause-low : goal.deep-requires-clause-low
deep-requires-clause-low c = low_grown c.args.bank.now c.instance.new.bank c.args.entries.now c.instance.ensures.grows c.requires.entries c.requires.low

pub deep-requires-clause-small : goal.deep-requires-clause-small
deep-requires-clause-small c =
    along (λ t. size t ≤ 1000000) (sym (instance_grown c.args.bank.now c.instance.new.bank c.args.context.now c.args.entries.now c.args.body c.instance.ensures.grows c.requires.context c.requires.entries c.requires.body))
    (too_deep (instance (bindings c.args.bank.now c.args.context.now c.args.entries.now) (tree_of c.args.bank.now c.args.body))
    (along (λ f. Answers c.instance.new.bank (Err f) (instance (bindings c.args.bank.now c.args.context.now c.args.entries.now) (tree_of c.args.bank.now c.args.body))) c.in-Err-TooDeep.field-0-is c.in-Err-TooDeep.ensures.answer))

pub returns-in-Err-TooDeep-clause-small : goal.returns-in-Err-TooDeep-clause-small
returns-in-Err-TooDeep-clause-small c =
    deep_near c.deep.new.bank c.deep.result _ _ _ c.deep.ensures.is
    (instance_grown c.args.bank.now c.instance.new.bank c.args.context.now c.args.entries.now c.args.body c.instance.ensures.grows c.requires.context c.requires.entries c.requires.body)
