use Rattle.std.proofs.Common.{ap}
use Rattle.std.specs.Prelude.{nat_lt, codes}
use Rattle.std.specs.String.{string_bytes}
use Rattle.lq_print.specs.Writing.{binder_front}
use Rattle.lq_print.specs.Pages.{kind_of}
use Rattle.lq_print.proofs.TableLaws.{text_is, text_within}
use Rattle.lq_print.proofs.VisitLaws.{on_ok, ok_always}
use Rattle.lq_print.proofs.PageLaws.{front_is, puts_closed, local_has, local_few, local_are}
use Rattle.lq_print.proofs.writing.write_local_piece.Goals as goal

pub write_binder-requires : goal.write_binder-requires
write_binder-requires c = text_within c.printed_name.new.texts c.in_ok-name.name _ c.in_ok-name.ensures.name

pub returns-clause-text : goal.returns-clause-text
returns-clause-text c =
    on_ok c.write_binder.result c.write_binder.ensures
    (λ e. front_is (string_bytes c.args.out.now) (string_bytes c.open.new.out) (string_bytes c.write_binder.new.out) _ _ c.encloses_binder.result (nat_lt 0 (kind_of c.args.wanted))
    c.encloses_binder.ensures c.in_ok-open.ensures.text (ap (binder_front (codes "let ")) (text_is c.printed_name.new.texts c.in_ok-name.name _ c.in_ok-name.ensures.name)) e)

pub returns-clause-work : goal.returns-clause-work
returns-clause-work c =
    let within = text_within c.printed_name.new.texts c.in_ok-name.name _ c.in_ok-name.ensures.name in
    ok_always c.write_binder.result
    (puts_closed c.printed_name.new.texts c.encloses_binder.result (nat_lt 0 (kind_of c.args.wanted)) c.args.work.now.items c.open.new.work.items c.put_local.new.work.items _ _
    c.encloses_binder.ensures c.in_ok-open.ensures.work c.in_ok-put_local.ensures (local_has c.printed_name.new.texts c.in_ok-name.name within)
    (local_are c.printed_name.new.texts c.in_ok-name.name within _ (text_is c.printed_name.new.texts c.in_ok-name.name _ c.in_ok-name.ensures.name))
    (local_few c.printed_name.new.texts c.in_ok-name.name within))
