use Rattle.std.proofs.Common.{◌∙◌, ap, ◌++◌}
use Rattle.std.specs.String.{string_bytes}
use Rattle.lq_print.specs.Pages.{kind_of, printed}
use Rattle.lq_print.proofs.VisitLaws.{on_ok, ok_always}
use Rattle.lq_print.proofs.PageLaws.{puts_none, writes_as, puts_as}
use Rattle.lq_print.proofs.writing.write_piece.Goals as goal

pub text-requires : goal.text-requires
text-requires c = rw c.in-Named.is at c.requires.piece

pub returns-in-Bound-clause-text : goal.returns-in-Bound-clause-text
returns-in-Bound-clause-text c = writes_as c.args.bank.now c.args.texts.now c.args.names.now (kind_of c.args.wanted) (printed c.args.texts.now c.args.binders.now) (string_bytes c.args.out.now) _ c.write_bound.result _ _ c.in-Bound.is c.write_bound.ensures

pub returns-in-Bound-clause-work : goal.returns-in-Bound-clause-work
returns-in-Bound-clause-work c = puts_as c.args.bank.now c.args.texts.now c.args.names.now (kind_of c.args.wanted) (printed c.args.texts.now c.args.binders.now) c.args.texts.now c.args.work.now.items _ c.write_bound.result _ _ c.in-Bound.is (ok_always c.write_bound.result (puts_none c.args.texts.now c.args.work.now.items))

pub returns-in-Named-clause-text : goal.returns-in-Named-clause-text
returns-in-Named-clause-text c = writes_as c.args.bank.now c.args.texts.now c.args.names.now (kind_of c.args.wanted) (printed c.args.texts.now c.args.binders.now) (string_bytes c.args.out.now) _ c.write.result _ _ c.in-Named.is (on_ok c.write.result c.write.ensures (λ e. e ∙ ap (λ z. string_bytes c.args.out.now ++ z) c.text.ensures))

pub returns-in-Named-clause-work : goal.returns-in-Named-clause-work
returns-in-Named-clause-work c = puts_as c.args.bank.now c.args.texts.now c.args.names.now (kind_of c.args.wanted) (printed c.args.texts.now c.args.binders.now) c.args.texts.now c.args.work.now.items _ c.write.result _ _ c.in-Named.is (ok_always c.write.result (puts_none c.args.texts.now c.args.work.now.items))

pub returns-in-Sort-clause-text : goal.returns-in-Sort-clause-text
returns-in-Sort-clause-text c = writes_as c.args.bank.now c.args.texts.now c.args.names.now (kind_of c.args.wanted) (printed c.args.texts.now c.args.binders.now) (string_bytes c.args.out.now) _ c.write_sort.result _ _ c.in-Sort.is c.write_sort.ensures

pub returns-in-Sort-clause-work : goal.returns-in-Sort-clause-work
returns-in-Sort-clause-work c = puts_as c.args.bank.now c.args.texts.now c.args.names.now (kind_of c.args.wanted) (printed c.args.texts.now c.args.binders.now) c.args.texts.now c.args.work.now.items _ c.write_sort.result _ _ c.in-Sort.is (ok_always c.write_sort.result (puts_none c.args.texts.now c.args.work.now.items))

pub returns-in-Applied-clause-text : goal.returns-in-Applied-clause-text
returns-in-Applied-clause-text c = writes_as c.args.bank.now c.args.texts.now c.args.names.now (kind_of c.args.wanted) (printed c.args.texts.now c.args.binders.now) (string_bytes c.args.out.now) _ c.write_application_piece.result _ _ c.in-Applied.is c.write_application_piece.ensures.text

pub returns-in-Applied-clause-work : goal.returns-in-Applied-clause-work
returns-in-Applied-clause-work c = puts_as c.args.bank.now c.args.texts.now c.args.names.now (kind_of c.args.wanted) (printed c.args.texts.now c.args.binders.now) c.args.texts.now c.args.work.now.items _ c.write_application_piece.result _ _ c.in-Applied.is (on_ok c.write_application_piece.result c.write_application_piece.ensures.work (λ h. h c.args.texts.now (printed c.args.texts.now c.args.binders.now)))

pub write_product_piece-requires-clause-binder : goal.write_product_piece-requires-clause-binder
write_product_piece-requires-clause-binder c = rw c.in-Product.is at c.requires.piece

pub returns-in-Product-clause-text : goal.returns-in-Product-clause-text
returns-in-Product-clause-text c = writes_as c.args.bank.now c.args.texts.now c.args.names.now (kind_of c.args.wanted) (printed c.args.texts.now c.args.binders.now) (string_bytes c.args.out.now) _ c.write_product_piece.result _ _ c.in-Product.is c.write_product_piece.ensures.text

pub returns-in-Product-clause-work : goal.returns-in-Product-clause-work
returns-in-Product-clause-work c = puts_as c.args.bank.now c.args.texts.now c.args.names.now (kind_of c.args.wanted) (printed c.args.texts.now c.args.binders.now) c.write_product_piece.new.texts c.args.work.now.items _ c.write_product_piece.result _ _ c.in-Product.is c.write_product_piece.ensures.work

pub write_function_piece-requires-clause-binder : goal.write_function_piece-requires-clause-binder
write_function_piece-requires-clause-binder c = rw c.in-Function.is at c.requires.piece

pub returns-in-Function-clause-text : goal.returns-in-Function-clause-text
returns-in-Function-clause-text c = writes_as c.args.bank.now c.args.texts.now c.args.names.now (kind_of c.args.wanted) (printed c.args.texts.now c.args.binders.now) (string_bytes c.args.out.now) _ c.write_function_piece.result _ _ c.in-Function.is c.write_function_piece.ensures.text

pub returns-in-Function-clause-work : goal.returns-in-Function-clause-work
returns-in-Function-clause-work c = puts_as c.args.bank.now c.args.texts.now c.args.names.now (kind_of c.args.wanted) (printed c.args.texts.now c.args.binders.now) c.write_function_piece.new.texts c.args.work.now.items _ c.write_function_piece.result _ _ c.in-Function.is c.write_function_piece.ensures.work

pub write_local_piece-requires-clause-binder : goal.write_local_piece-requires-clause-binder
write_local_piece-requires-clause-binder c = rw c.in-Local.is at c.requires.piece

pub returns-in-Local-clause-text : goal.returns-in-Local-clause-text
returns-in-Local-clause-text c = writes_as c.args.bank.now c.args.texts.now c.args.names.now (kind_of c.args.wanted) (printed c.args.texts.now c.args.binders.now) (string_bytes c.args.out.now) _ c.write_local_piece.result _ _ c.in-Local.is c.write_local_piece.ensures.text

pub returns-in-Local-clause-work : goal.returns-in-Local-clause-work
returns-in-Local-clause-work c = puts_as c.args.bank.now c.args.texts.now c.args.names.now (kind_of c.args.wanted) (printed c.args.texts.now c.args.binders.now) c.write_local_piece.new.texts c.args.work.now.items _ c.write_local_piece.result _ _ c.in-Local.is c.write_local_piece.ensures.work

pub returns-in-Unknown-clause-text : goal.returns-in-Unknown-clause-text
returns-in-Unknown-clause-text c = writes_as c.args.bank.now c.args.texts.now c.args.names.now (kind_of c.args.wanted) (printed c.args.texts.now c.args.binders.now) (string_bytes c.args.out.now) _ c.write_unknown.result _ _ c.in-Unknown.is c.write_unknown.ensures

pub returns-in-Unknown-clause-work : goal.returns-in-Unknown-clause-work
returns-in-Unknown-clause-work c = puts_as c.args.bank.now c.args.texts.now c.args.names.now (kind_of c.args.wanted) (printed c.args.texts.now c.args.binders.now) c.args.texts.now c.args.work.now.items _ c.write_unknown.result _ _ c.in-Unknown.is (ok_always c.write_unknown.result (puts_none c.args.texts.now c.args.work.now.items))
