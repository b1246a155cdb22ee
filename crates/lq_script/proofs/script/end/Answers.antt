use Rattle.std.proofs.Common.{refl, sym, ◌∙◌}
use Rattle.lq_output.specs.declared.Status.{Status}
use Rattle.lq_script.specs.declared.script.Answer.{Answer}
use Rattle.lq_script.specs.States.{state_of}
use Rattle.lq_script.proofs.ScriptLaws.{ended_well, ended_badly}
use Rattle.lq_script.proofs.script.end.Goals as goal

pub returns-then-is_ended : goal.returns-then-is_ended
returns-then-is_ended c =
    let a : Answer = record { text = c.args.text; status = Status.Done } in
    ended_well (state_of c.args.session.now) c.args.number c.args.rest.now c.args.text.items a (sym c.is_ended.ensures ∙ c.if-is_ended.true) refl refl

pub returns : goal.returns
returns c =
    let a : Answer = record { text = c.append_fault_line.new.out; status = Status.ScriptFault } in
    ended_badly (state_of c.args.session.now) c.args.number c.args.rest.now c.args.text.items a (sym c.is_ended.ensures ∙ c.if-is_ended.false) c.in_ok-append_fault_line.ensures.wrote refl
