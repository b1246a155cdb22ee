use Rattle.std.specs.Prelude.{codes}
use Rattle.lq_texts.specs.Faults.{with_messages}
use Rattle.std.specs.String.{string_bytes}
use Rattle.lq_print.proofs.VisitLaws.{on_ok}
use Rattle.lq_print.proofs.FaultLaws.{two_parts}
use Rattle.lq_print.proofs.faults.write_failure.Goals as goal

pub returns : goal.returns
returns c =
    on_ok c.write_messages.result c.write_messages.ensures
    (λ e. two_parts (string_bytes c.args.out.now) (string_bytes c.write.new.out) (string_bytes c.write_messages.new.out) (codes "Ltac failure")
    (with_messages c.args.messages.now) c.in_ok-write.ensures e)
