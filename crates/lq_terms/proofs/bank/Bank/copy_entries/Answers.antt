use Rattle.std.proofs.Common.{◌∙◌}
use Rattle.lq_terms.proofs.Banks.{copied_parts, copied_more}
use Rattle.lq_terms.proofs.NodeLaws.{copied_absent}
use Rattle.lq_terms.proofs.bank.Bank.copy_entries.Goals as goal

pub add-requires-clause-parts : goal.add-requires-clause-parts
add-requires-clause-parts c =
    copied_parts c.args.self.now c.loop-place.copy c.loop-place.place c.stored.result.now c.in_ok-node.node c.stored.ensures.stands c.stored.ensures.parts c.in_ok-node.ensures
    c.loop-place.invariant.names c.loop-place.invariant.nodes

pub add-requires-clause-absent : goal.add-requires-clause-absent
add-requires-clause-absent c =
    copied_absent _ c.self.inside.entries.entries c.args.self.now c.self.view_is c.len-place-end.ensures.unique c.loop-place.copy.nodes c.loop-place.place c.stored.result.now c.in_ok-node.node c.stored.ensures.stands c.loop-place.invariant.nodes c.in_ok-node.ensures

pub loop-place-preserved : goal.loop-place-preserved
loop-place-preserved c = record {
  names = c.in_ok-add.ensures.added.names ∙ c.loop-place.invariant.names;
  nodes =
      copied_more c.args.self.now c.loop-place.copy c.loop-place.place c.stored.result.now c.in_ok-node.node c.stored.ensures.stands c.in_ok-node.ensures
      c.loop-place.invariant.nodes c.add.new.self c.in_ok-add.ensures.added.nodes;
}
