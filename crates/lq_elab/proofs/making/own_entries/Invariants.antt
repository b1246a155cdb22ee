use Rattle.lq_elab.proofs.MakingLaws.{AreOwn}
use Rattle.lq_elab.proofs.making.own_entries.Given as goal

abbrev pub invariant-loop-hypothesis : goal.invariant-loop-hypothesis
invariant-loop-hypothesis l = AreOwn l.fn.bank l.bank l.context l.hypothesis-index l.entries.items
