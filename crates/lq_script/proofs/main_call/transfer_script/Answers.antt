use Rattle.lq_script.specs.Answers.{IsOutputOf}
use Rattle.lq_script.proofs.MainLaws.{script_given, read_ended, answer_verdict}
use Rattle.lq_script.proofs.main_call.transfer_script.Goals as goal

pub returns-in-Ok-run_script-clause-gives : goal.returns-in-Ok-run_script-clause-gives
returns-in-Ok-run_script-clause-gives g c = λ bytes e.
    let is : IsOutputOf c.in-Ok.script.items c.in-Ok-run_script.answer = rw c.as_slice.ensures.value at c.in-Ok-run_script.ensures in
    script_given bytes c.in-Ok.script.items _ _ _ _ c.in-Ok-run_script.answer c.deliver.result e c.in-Ok.ensures.bytes is c.deliver.ensures.delivered

pub returns-in-Ok-run_script-clause-reads : goal.returns-in-Ok-run_script-clause-reads
returns-in-Ok-run_script-clause-reads g c = λ bytes e.
    let is : IsOutputOf c.in-Ok.script.items c.in-Ok-run_script.answer = rw c.as_slice.ensures.value at c.in-Ok-run_script.ensures in
    read_ended bytes c.in-Ok.script.items _ _ _ _ c.in-Ok-run_script.answer c.deliver.result e c.in-Ok.ensures.bytes is c.deliver.ensures.delivered

pub returns-in-Ok-run_script-clause-read_fault : goal.returns-in-Ok-run_script-clause-read_fault
returns-in-Ok-run_script-clause-read_fault g c = λ e.
    absurd (c.deliver.ensures.no_read (answer_verdict c.as_slice.result.now c.in-Ok-run_script.answer c.in-Ok-run_script.ensures) e)

pub returns-in-Ok-run_script-clause-write_fault : goal.returns-in-Ok-run_script-clause-write_fault
returns-in-Ok-run_script-clause-write_fault g c = λ e.
    c.deliver.ensures.cause (answer_verdict c.as_slice.result.now c.in-Ok-run_script.answer c.in-Ok-run_script.ensures) e
