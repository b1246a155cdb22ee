use Rattle.std.proofs.Common.{◌≡◌, ◌++◌, take}
use Rattle.lq_kernel.proofs.families.push_hypotheses.Given as goal

-- those so far stand behind the others
abbrev pub invariant-loop-hypothesis : goal.invariant-loop-hypothesis
invariant-loop-hypothesis l = l.context ≡ l.initial.context ++ take l.hypothesis-index l.hypotheses
