use Rattle.std.proofs.Common.{◌≤◌, ◌-◌, ◌+◌, length}
use Rattle.lq_script.specs.States.{state_of, IsSession}
use Rattle.lq_script.proofs.ScriptLaws.{HasRun}
use Rattle.lq_script.proofs.script.run_sentences.Given as goal

-- what is written so far, and then the run of what is left, is the run of all
abbrev pub invariant-loop-dot : goal.invariant-loop-dot
invariant-loop-dot g l = record {
  within : l.from ≤ length l.bytes;
  counted : l.number ≤ l.from + 1;
  sound : IsSession l.session;
  so_far : HasRun l.bytes l.text.items (state_of l.session) l.number l.from;
}

abbrev pub decreases-loop-dot : goal.decreases-loop-dot
decreases-loop-dot g l = length l.bytes + 1 - l.from
