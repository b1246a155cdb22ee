use Rattle.std.proofs.Common.{◌≡◌, drop}
use Rattle.std.specs.Prelude.{slice_range}
use Rattle.lq_output.specs.Script.{cut}
use Rattle.lq_script.proofs.EndLaws.{behind}
use Rattle.lq_script.proofs.reader.ends.sentence_end.Given as goal

abbrev pub invariant-loop-dot : goal.invariant-loop-dot
invariant-loop-dot l = cut (drop l.from l.text) ≡ behind (slice_range l.text l.from l.dot) (cut (drop l.dot l.text))
