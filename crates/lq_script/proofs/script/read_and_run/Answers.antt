use Rattle.std.proofs.Common.{string_bytes}
use Rattle.lq_output.proofs.Nested.{read_shallow}
use Rattle.lq_script.specs.Syntax.{plain_sentence}
use Rattle.lq_script.proofs.TurnLaws.{read_some, read_none, run_accepted, run_tells, unread_refused}
use Rattle.lq_script.proofs.script.read_and_run.Goals as goal

pub run-requires-clause-shallow : goal.run-requires-clause-shallow
run-requires-clause-shallow g c = read_shallow c.args.text.now (plain_sentence c.in-Some.sentence) (read_some c.in_ok-sentence.field-0 c.in-Some.sentence c.args.text.now c.in_ok-sentence.ensures c.in-Some.is)

pub returns-in-Some-clause-accepted : goal.returns-in-Some-clause-accepted
returns-in-Some-clause-accepted g c =
    run_accepted string_bytes c.args.session.now c.run.new.self c.args.text.now (plain_sentence c.in-Some.sentence) c.run.result
    (read_some c.in_ok-sentence.field-0 c.in-Some.sentence c.args.text.now c.in_ok-sentence.ensures c.in-Some.is) c.run.ensures.answer

pub returns-in-Some-clause-refused : goal.returns-in-Some-clause-refused
returns-in-Some-clause-refused g c =
    run_tells string_bytes c.args.session.now c.run.new.self c.args.text.now (plain_sentence c.in-Some.sentence) c.run.result
    (read_some c.in_ok-sentence.field-0 c.in-Some.sentence c.args.text.now c.in_ok-sentence.ensures c.in-Some.is) c.run.ensures.answer

pub returns-in-None-clause-refused : goal.returns-in-None-clause-refused
returns-in-None-clause-refused g c = unread_refused c.args.session.now c.args.text.now (read_none c.in_ok-sentence.field-0 c.args.text.now c.in_ok-sentence.ensures c.in-None.is)
