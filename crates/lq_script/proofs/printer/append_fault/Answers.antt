use Rattle.std.proofs.lemmas.Result.{IfOk-weaker}
use Rattle.lq_script.proofs.FaultTexts.{goals_told}
use Rattle.lq_script.proofs.printer.append_fault.Goals as goal

pub returns-in_ok-append-in-OpenGoals-clause-wrote : goal.returns-in_ok-append-in-OpenGoals-clause-wrote
returns-in_ok-append-in-OpenGoals-clause-wrote c =
    IfOk-weaker c.append_number.result _ _ (λ _ e. goals_told c.args.bank.now c.args.fault _ _ _ _ c.in-OpenGoals.is c.in_ok-append-in-OpenGoals.ensures e) c.append_number.ensures
