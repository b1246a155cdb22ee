use Rattle.std.proofs.Common.{◌∙◌, ap, sym, ◌++◌, arith, append-nil}
use Rattle.std.proofs.lemmas.Result.{IfOk-equal}
use Rattle.std.specs.String.{string_bytes}
use Rattle.lq_texts.specs.Printing.{bound_name}
use Rattle.lq_print.proofs.PageLaws.{binder_at, binder_past}
use Rattle.lq_print.proofs.writing.write_bound.Goals as goal

pub returns-in-Some : goal.returns-in-Some
unfolding bound_name
returns-in-Some c =
    IfOk-equal c.write.result _ _ _ c.write.ensures
    (ap (λ t. string_bytes c.args.out.now ++ t) (c.text.ensures ∙ sym (ap bound_name (binder_at c.args.texts.now c.args.binders.now c.args.index c.in-Some.place 0 (omega (arith, c.in-Some.ensures))))))

pub returns-in-None : goal.returns-in-None
unfolding bound_name
returns-in-None c =
    sym (ap (λ t. string_bytes c.args.out.now ++ t) (ap bound_name (binder_past c.args.texts.now c.args.binders.now c.args.index (omega (arith, c.in-None.ensures)))) ∙ append-nil (string_bytes c.args.out.now))
