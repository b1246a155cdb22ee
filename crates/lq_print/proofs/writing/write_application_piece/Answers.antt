use Rattle.std.proofs.Common.{◌∙◌, ap, refl, arith, ◌++◌}
use Rattle.std.specs.Prelude.{nat_lt}
use Rattle.std.specs.String.{string_bytes}
use Rattle.lq_print.specs.Writing.{opening}
use Rattle.lq_print.specs.Pages.{kind_of, application_items}
use Rattle.lq_print.proofs.VisitLaws.{on_ok, ok_always}
use Rattle.lq_print.proofs.PageLaws.{puts_closed}
use Rattle.lq_print.proofs.writing.write_application_piece.Goals as goal

pub returns-clause-text : goal.returns-clause-text
returns-clause-text c = ok_always c.put_application.result (c.in_ok-open.ensures.text ∙ ap (λ b. string_bytes c.args.out.now ++ opening b) c.encloses_application.ensures)

pub returns-clause-work : goal.returns-clause-work
returns-clause-work c =
    on_ok c.put_application.result c.put_application.ensures
    (λ e ts bs. puts_closed ts c.encloses_application.result (nat_lt 1 (kind_of c.args.wanted)) c.args.work.now.items c.open.new.work.items c.put_application.new.work.items application_items _
    c.encloses_application.ensures c.in_ok-open.ensures.work e (tt, (tt, (tt, tt))) refl (omega arith))
