use Rattle.std.proofs.Common.{◌≡◌, ◌++◌, map, take}
use Rattle.lq_evars.specs.Closures.{beside}
use Rattle.lq_evars.proofs.comparing.push_entries.Given as goal

abbrev pub invariant-loop-entry : goal.invariant-loop-entry
invariant-loop-entry l = l.parts.items ≡ l.fn.parts.items ++ map (beside l.closure) (take l.entry-index l.entries)
