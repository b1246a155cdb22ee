use Rattle.std.proofs.Common.{◌≡◌, ◌++◌, take}
use Rattle.std.specs.Prelude.{map}
use Rattle.lq_unify.specs.declared.holding.Look.{Look}
use Rattle.lq_unify.proofs.holding.push_each.Given as goal

abbrev pub invariant-loop-term : goal.invariant-loop-term
invariant-loop-term l = l.work.items ≡ l.fn.work.items ++ map Look.Visit (take l.term-index l.terms)
