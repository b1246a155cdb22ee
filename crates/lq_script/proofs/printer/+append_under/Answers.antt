use Rattle.std.proofs.Common.{◌∙◌, ap, sym, ◌++◌}
use Rattle.std.proofs.lemmas.Result.{IfOk-equal}
use Rattle.lq_script.proofs.BinderLaws.{text-grown}
use Rattle.lq_script.proofs.ProductTexts.{text_used, text_unused, left_bracketed, left_plain, forall_pieces, arrow_pieces, bracket_pieces, left-grown, below-grown}
use Rattle.lq_script.proofs.printer.+append_under.Goals as goal

pub append_product-returns-then-is_used-clause-wrote : goal.append_product-returns-then-is_used-clause-wrote
append_product-returns-then-is_used-clause-wrote t c =
    IfOk-equal c.append_forall.result _ _ _ c.append_forall.ensures.wrote
    (ap (λ text. c.args.out.now.items ++ text) (sym (text_used _ _ _ _ (sym c.is_used.ensures ∙ c.if-is_used.true))))

pub append_product-returns-else-is_used-clause-wrote : goal.append_product-returns-else-is_used-clause-wrote
append_product-returns-else-is_used-clause-wrote t c =
    IfOk-equal c.append_arrow.result _ _ _ c.append_arrow.ensures.wrote
    (ap (λ text. c.args.out.now.items ++ text) (sym (text_unused _ _ _ _ (sym c.is_used.ensures ∙ c.if-is_used.false))))

pub append_left-returns-in_ok-append_under-clause-wrote : goal.append_left-returns-in_ok-append_under-clause-wrote
append_left-returns-in_ok-append_under-clause-wrote t c =
    IfOk-equal c.append-then-is_product.result _ _ _ c.append-then-is_product.ensures
    (bracket_pieces _ _ _ _ c.in_ok-append.ensures c.in_ok-append_under.ensures.wrote
    ∙ ap (λ text. c.args.out.now.items ++ text) (sym (left_bracketed _ _ (sym c.is_product.ensures ∙ c.if-is_product.true))))

pub append_left-returns-else-is_product-clause-wrote : goal.append_left-returns-else-is_product-clause-wrote
append_left-returns-else-is_product-clause-wrote t c =
    IfOk-equal c.append_under-else-is_product.result _ _ _ c.append_under-else-is_product.ensures.wrote
    (ap (λ text. c.args.out.now.items ++ text) (sym (left_plain _ _ (sym c.is_product.ensures ∙ c.if-is_product.false))))

pub append_forall-returns-clause-wrote : goal.append_forall-returns-clause-wrote
append_forall-returns-clause-wrote t c =
    let old = c.args.bank.now in
    let mid = c.printed_name.new.bank in
    let new = c.append_under.new.bank in
    let xs = c.args.binders.now.items in
    let named = rw c.as_slice.ensures.value at c.in_ok-name.ensures.name in
    IfOk-equal c.append_below.result _ _ _ c.append_below.ensures.wrote
    (ap (λ text. c.append-4.new.out.items ++ text)
    (below-grown old mid new xs c.append_under.new.binders.items c.in_ok-name.name c.args.product.rest _ c.requires.binders c.requires.product.rest c.in_ok-name.ensures.grows c.in_ok-append_under.ensures.grows named
    c.in_ok-append_under.ensures.binders)
    ∙ forall_pieces _ _ _ _ _ _ _ _ _ c.in_ok-append.ensures (c.in_ok-append-2.ensures ∙ ap (λ text. c.append.new.out.items ++ text) (c.text.ensures.text ∙ named.is)) c.in_ok-append-3.ensures
    (c.in_ok-append_under.ensures.wrote ∙ ap (λ text. c.append-3.new.out.items ++ text) (text-grown old mid xs c.args.product.kind c.in_ok-name.ensures.grows c.requires.binders c.requires.product.kind))
    c.in_ok-append-4.ensures)

pub append_arrow-returns-clause-wrote : goal.append_arrow-returns-clause-wrote
append_arrow-returns-clause-wrote t c =
    let old = c.args.bank.now in
    let mid = c.name.new.self in
    let new = c.append_left.new.bank in
    let xs = c.args.binders.now.items in
    IfOk-equal c.append_below.result _ _ _ c.append_below.ensures.wrote
    (ap (λ text. c.append.new.out.items ++ text)
    (below-grown old mid new xs c.append_left.new.binders.items c.in_ok-unnamed.unnamed c.args.product.rest _ c.requires.binders c.requires.product.rest c.in_ok-unnamed.ensures.grows c.in_ok-append_left.ensures.grows
    c.in_ok-unnamed.ensures.named c.in_ok-append_left.ensures.binders)
    ∙ arrow_pieces _ _ _ _ _ (c.in_ok-append_left.ensures.wrote ∙ ap (λ text. c.args.out.now.items ++ text) (left-grown old mid xs c.args.product.kind c.in_ok-unnamed.ensures.grows c.requires.binders c.requires.product.kind)) c.in_ok-append.ensures)
