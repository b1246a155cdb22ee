use Rattle.std.proofs.Common.{◌≡◌, ◌-◌, refl, sym, subst, arith, [], length, take, drop, length-drop}
use Rattle.std.proofs.lemmas.List.{take_all}
use Rattle.lq_output.specs.declared.Status.{Status}
use Rattle.lq_script.specs.declared.script.Answer.{Answer}
use Rattle.lq_script.specs.Turns.{IsRunOf, IsEndOf}
use Rattle.lq_script.specs.States.{state_of}
use Rattle.lq_script.proofs.ScriptLaws.{HasRun, no_run, run_more, run_refused, run_ended, if_ok_map, turn_ends, turn_goes}
use Rattle.lq_script.proofs.script.run_sentences.Goals as goal

pub loop-dot-init : goal.loop-dot-init
loop-dot-init g c = record {
  within = omega arith;
  counted = omega arith;
  sound = c.in_ok-session.ensures.session;
  so_far =
      subst (λ z. HasRun c.args.bytes.now z (state_of c.in_ok-session.session) 1 0) (sym c.new-text.ensures.items)
      (subst (λ z. HasRun c.args.bytes.now [] z 1 0) (sym c.in_ok-session.ensures.starts) (no_run c.args.bytes.now));
}

pub returns-then-not-branch : goal.returns-then-not-branch
returns-then-not-branch g c =
    let a : Answer = record { text = c.run_sentence.new.text; status = Status.ScriptFault } in
    run_refused c.args.bytes.now c.loop-dot.text.items c.run_sentence.new.text.items c.loop-dot.session c.loop-dot.number c.loop-dot.from c.in-Some.dot a c.loop-dot.invariant.so_far c.in-Some.ensures
    (turn_ends c.in_ok-run_sentence.field-0 c.loop-dot.session c.run_sentence.new.session c.loop-dot.number _ c.loop-dot.text.items c.run_sentence.new.text.items c.if-not-branch.true c.in_ok-run_sentence.ensures.turns) refl refl

pub loop-dot-preserved : goal.loop-dot-preserved
loop-dot-preserved g c = record {
  within = omega (arith, c.in-Some.ensures.within);
  counted = omega (arith, c.in-Some.ensures.order, c.loop-dot.invariant.counted);
  sound = c.in_ok-run_sentence.ensures.is c.if-not-branch.false;
  so_far =
      run_more c.args.bytes.now c.loop-dot.text.items c.run_sentence.new.text.items c.loop-dot.session c.run_sentence.new.session c.loop-dot.number c.loop-dot.from c.in-Some.dot c.loop-dot.invariant.so_far c.in-Some.ensures
      (turn_goes c.in_ok-run_sentence.field-0 c.loop-dot.session c.run_sentence.new.session c.loop-dot.number _ c.loop-dot.text.items c.run_sentence.new.text.items c.if-not-branch.false c.in_ok-run_sentence.ensures.turns);
}

pub returns : goal.returns
returns g c =
    let bytes = c.args.bytes.now in
    let from = c.loop-dot.from in
    let rest = take (length bytes - from) (drop from bytes) in
    let all : rest ≡ drop from bytes = take_all (length bytes - from) (drop from bytes) (omega (arith, length-drop from bytes)) in
    if_ok_map (IsEndOf (state_of c.loop-dot.session) c.loop-dot.number rest c.loop-dot.text.items) (IsRunOf bytes) c.end.result
    (λ a e. run_ended bytes c.loop-dot.text.items (state_of c.loop-dot.session) c.loop-dot.number from a c.loop-dot.invariant.so_far c.in_default.ensures
    (subst (λ z. IsEndOf (state_of c.loop-dot.session) c.loop-dot.number z c.loop-dot.text.items a) all e)) c.end.ensures
