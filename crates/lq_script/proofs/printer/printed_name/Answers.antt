use Rattle.std.proofs.lemmas.Result.{IfOk-weaker}
use Rattle.lq_script.proofs.BinderLaws.{name_printed}
use Rattle.lq_script.proofs.printer.printed_name.Goals as goal

pub returns-clause-name : goal.returns-clause-name
returns-clause-name c =
    IfOk-weaker c.fresh_name.result _ _
    (λ y named.
    name_printed c.args.bank.now c.own_name.new.bank c.fresh_name.new.bank c.args.binders.now c.as_slice.result.now c.args.binder c.in_ok-own.own y c.args.rest c.requires.binders c.requires.rest c.in_ok-own.ensures.grows
    c.in_ok-own.ensures.name (rw c.as_slice.ensures.value c.in_ok-taken.ensures.texts) named)
    c.fresh_name.ensures.name
