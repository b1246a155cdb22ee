use Rattle.std.proofs.Common.{◌∙◌, ap, length, ◌+◌}
use Rattle.lq_ast.specs.declared.sentence.Group.{Group}
use Rattle.lq_session.proofs.CountLaws.{no_group, next_group, all_groups}
use Rattle.lq_session.proofs.inductive_command.marks_of.Goals as goal

pub groups-init : goal.groups-init
groups-init c = no_group (length c.new-marks.result.items) c.args.groups.now (ap length c.new-marks.ensures.items)

pub groups-preserved : goal.groups-preserved
groups-preserved c =
    next_group (length c.groups.marks.items) (length c.mark_names.new.marks.items) c.args.groups.now c.groups.group-index c.group-item.result c.groups.invariant
    (c.in_ok-mark_names.ensures ∙ ap (λ ns. length c.groups.marks.items + length ns) (c.as_slice.ensures ∙ ap (λ (g : Group). g.names) c.group-item.is)) c.groups-test.true

pub returns : goal.returns
returns c = all_groups (length c.groups.marks.items) c.args.groups.now c.groups.group-index c.groups.invariant c.groups-test.false
