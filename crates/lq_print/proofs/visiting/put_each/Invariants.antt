use Rattle.std.proofs.Common.{◌≡◌, ◌++◌, take}
use Rattle.std.specs.Prelude.{map}
use Rattle.lq_print.specs.declared.work.Work.{Work}
use Rattle.lq_print.proofs.visiting.put_each.Given as goal

abbrev pub invariant-loop-term : goal.invariant-loop-term
invariant-loop-term l = l.work.items ≡ l.fn.work.items ++ map Work.Visit (take l.term-index l.terms)
