use Rattle.std.proofs.Common.{drop}
use Rattle.lq_goals.specs.Held.{AreQuiet}
use Rattle.lq_goals.proofs.proof.Proof.has_new_value.Given as goal

-- where the values that are left are quiet, all newer ones are
abbrev pub invariant-loop-place : goal.invariant-loop-place
invariant-loop-place l =
    AreQuiet l.self.seen l.taken (drop l.place l.self.store.values) → AreQuiet l.self.seen l.taken (drop l.self.given l.self.store.values)
