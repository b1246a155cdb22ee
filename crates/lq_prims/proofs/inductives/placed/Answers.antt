use Rattle.std.proofs.Common.{◌≤◌}
use Rattle.std.proofs.Common.{subst as along}
use Rattle.lq_terms.specs.Changes.{bindings}
use Rattle.lq_terms.specs.Terms.{tree_of}
use Rattle.lq_prims.proofs.ConstructorLaws.{instance_index, bindings_shallow}
use Rattle.lq_prims.proofs.inductives.placed.Goals as goal

pub put-requires-clause-index : goal.put-requires-clause-index
put-requires-clause-index c =
    instance_index (bindings c.args.bank.now c.args.context.now c.args.values.now) (tree_of c.args.bank.now c.args.kind) (bindings_shallow c.args.bank.now c.args.context.now c.args.values.now c.requires.shallow) c.requires.within
    (along (λ z. z.depth ≤ 4294960000) c.measure.ensures c.if-measure-gt-MOST_DEPTH.false)
