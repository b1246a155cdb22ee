use Rattle.std.specs.Prelude.{codes, replicate}
use Rattle.std.specs.String.{string_bytes}
use Rattle.lq_print.proofs.VisitLaws.{on_ok}
use Rattle.lq_print.proofs.FaultLaws.{two_parts}
use Rattle.lq_print.proofs.faults.write_wrong_bullet.Goals as goal

pub returns : goal.returns
returns c =
    on_ok c.write_bullet.result c.write_bullet.ensures
    (λ e. two_parts (string_bytes c.args.out.now) (string_bytes c.write.new.out) (string_bytes c.write_bullet.new.out) (codes "expected bullet ")
    (replicate c.args.count c.args.character) c.in_ok-write.ensures e)
