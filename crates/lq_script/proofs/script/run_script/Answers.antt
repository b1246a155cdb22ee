use Rattle.lq_script.specs.Answers.{IsOutputOf}
use Rattle.lq_script.proofs.ScriptLaws.{long_answer, short_answer, if_ok_map}
use Rattle.lq_script.proofs.script.run_script.Goals as goal

pub returns-then-bytes-gt-MOST_BYTES : goal.returns-then-bytes-gt-MOST_BYTES
returns-then-bytes-gt-MOST_BYTES c =
    if_ok_map _ (IsOutputOf c.args.bytes.now) c.answer_too_long.result (λ a e. long_answer c.args.bytes.now a c.if-bytes-gt-MOST_BYTES.true e) c.answer_too_long.ensures

pub returns : goal.returns
returns c =
    if_ok_map _ (IsOutputOf c.args.bytes.now) c.run_sentences.result (λ a r. short_answer c.args.bytes.now a c.if-bytes-gt-MOST_BYTES.false r) c.run_sentences.ensures
