use Rattle.std.proofs.Common.{◌∙◌, ap, sym, ◌++◌, arith, append-nil}
use Rattle.std.proofs.lemmas.Result.{IfOk-equal}
use Rattle.lq_output.specs.Printing.{binder_text}
use Rattle.lq_script.proofs.BinderLaws.{binder_at, binder_past}
use Rattle.lq_script.proofs.printer.append_variable.Goals as goal

pub returns-in-Some : goal.returns-in-Some
unfolding binder_text
returns-in-Some c =
    IfOk-equal c.append.result _ _ _ c.append.ensures
    (ap (λ t. c.args.out.now.items ++ t) (c.text.ensures.text ∙ sym (ap binder_text (binder_at c.args.bank.now c.args.binders.now c.args.index c.in-Some.place _ (omega (arith, c.in-Some.ensures))))))

pub returns-in-None : goal.returns-in-None
unfolding binder_text
returns-in-None c =
    sym (ap (λ t. c.args.out.now.items ++ t) (ap binder_text (binder_past c.args.bank.now c.args.binders.now c.args.index (omega (arith, c.in-None.ensures)))) ∙ append-nil c.args.out.now.items)
