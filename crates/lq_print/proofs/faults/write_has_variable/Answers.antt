use Rattle.std.proofs.Common.{◌∙◌, ◌++◌, ap, decimal}
use Rattle.std.specs.Prelude.{codes}
use Rattle.std.specs.String.{string_bytes}
use Rattle.lq_print.proofs.VisitLaws.{on_ok}
use Rattle.lq_print.proofs.FaultLaws.{two_parts}
use Rattle.lq_print.proofs.faults.write_has_variable.Goals as goal

pub returns : goal.returns
returns c =
    on_ok c.write.result c.write.ensures
    (λ e. two_parts (string_bytes c.args.out.now) (string_bytes c.write_numbered.new.out) (string_bytes c.write.new.out) (codes "variable ?" ++ decimal c.args.variable)
    (codes " in a finished term")
    (c.in_ok-write_numbered.ensures ∙ ap (λ k. string_bytes c.args.out.now ++ (codes "variable ?" ++ decimal k)) c.from.ensures) e)
