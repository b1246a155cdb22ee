use Rattle.std.proofs.Common.{take}
use Rattle.lq_evars.specs.Reading.{EachReads}
use Rattle.lq_evars.proofs.rebuilding.each_known.Given as goal

abbrev pub invariant-loop-part : goal.invariant-loop-part
invariant-loop-part l = EachReads l.bank l.store (take l.part-index l.parts) l.answers
