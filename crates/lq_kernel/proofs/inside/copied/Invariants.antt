use Rattle.std.proofs.Common.{◌≡◌, take}
use Rattle.lq_kernel.proofs.inside.copied.Given as goal

-- the hypotheses so far
abbrev pub invariant-loop-hypothesis : goal.invariant-loop-hypothesis
invariant-loop-hypothesis l = l.copied ≡ take l.hypothesis-index l.context
