use Rattle.std.proofs.lemmas.Result.{IfOk-weaker}
use Rattle.lq_script.specs.Faults.{fault_of}
use Rattle.lq_script.proofs.FaultTexts.{line_pieces}
use Rattle.lq_script.proofs.printer.append_fault_line.Goals as goal

pub returns-clause-wrote : goal.returns-clause-wrote
returns-clause-wrote c =
    IfOk-weaker c.append-3.result _ _
    (λ _ e. line_pieces (fault_of c.args.bank.now c.args.fault) c.args.number _ _ _ _ _ _ c.in_ok-append.ensures c.in_ok-append_number.ensures c.in_ok-append-2.ensures c.in_ok-append_fault.ensures.wrote e)
    c.append-3.ensures
