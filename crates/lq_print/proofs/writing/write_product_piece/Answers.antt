use Rattle.std.proofs.Common.{◌∙◌, ap, refl}
use Rattle.std.specs.Prelude.{nat_lt}
use Rattle.std.specs.String.{string_bytes}
use Rattle.lq_print.specs.Tables.{text_at}
use Rattle.lq_print.specs.Writing.{product_front, product_steps}
use Rattle.lq_print.specs.Pages.{kind_of}
use Rattle.lq_print.proofs.TableLaws.{text_is, text_within}
use Rattle.lq_print.proofs.VisitLaws.{on_ok}
use Rattle.lq_print.proofs.PageLaws.{front_is, puts_closed, product_has, product_few, product_are}
use Rattle.lq_print.proofs.writing.write_product_piece.Goals as goal

pub write_product-requires : goal.write_product-requires
write_product-requires c = text_within c.printed_name.new.texts c.in_ok-name.name _ c.in_ok-name.ensures.name

pub returns-clause-text : goal.returns-clause-text
returns-clause-text c =
    on_ok c.write_product.result c.write_product.ensures.text
    (λ e. front_is (string_bytes c.args.out.now) (string_bytes c.open.new.out) (string_bytes c.write_product.new.out) _ _ c.encloses_binder.result (nat_lt 0 (kind_of c.args.wanted))
    c.encloses_binder.ensures c.in_ok-open.ensures.text (ap product_front (text_is c.printed_name.new.texts c.in_ok-name.name _ c.in_ok-name.ensures.name)) e)

pub returns-clause-work : goal.returns-clause-work
returns-clause-work c =
    let within = text_within c.printed_name.new.texts c.in_ok-name.name _ c.in_ok-name.ensures.name in
    on_ok c.write_product.result c.write_product.ensures.work
    (λ e. puts_closed c.printed_name.new.texts c.encloses_binder.result (nat_lt 0 (kind_of c.args.wanted)) c.args.work.now.items c.open.new.work.items c.write_product.new.work.items _ _
    c.encloses_binder.ensures c.in_ok-open.ensures.work e (product_has c.printed_name.new.texts c.in_ok-name.name within (text_at c.printed_name.new.texts c.in_ok-name.name))
    (product_are c.printed_name.new.texts c.in_ok-name.name within (text_at c.printed_name.new.texts c.in_ok-name.name) refl ∙ ap product_steps (text_is c.printed_name.new.texts c.in_ok-name.name _ c.in_ok-name.ensures.name))
    (product_few c.printed_name.new.texts c.in_ok-name.name within (text_at c.printed_name.new.texts c.in_ok-name.name)))
