use Rattle.std.proofs.Common.{◌∙◌, ap, arith, length, length-append, [], ◌∷◌}
use Rattle.lq_session.proofs.CountLaws.{one_mark}
use Rattle.lq_session.proofs.inductive_command.mark_names.Goals as goal

pub names-init : goal.names-init
names-init c = omega arith

pub names-preserved : goal.names-preserved
names-preserved c =
    one_mark (length c.names.marks.items) (length c.args.marks.now.items) (length c.push.new.self.items) c.names.index c.names.invariant (ap length c.in_ok-push.ensures.items ∙ length-append c.names.marks.items (0 ∷ []))

pub returns : goal.returns
returns c = omega (arith, c.names.invariant, c.names-test.false, c.names.auto.index-end)
