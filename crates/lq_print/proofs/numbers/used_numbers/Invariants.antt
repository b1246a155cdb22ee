use Rattle.std.proofs.Common.{map, take, length}
use Rattle.lq_terms.specs.Numbers.{AreUsed}
use Rattle.lq_print.specs.Tables.{text_at}
use Rattle.lq_print.proofs.numbers.used_numbers.Given as goal

abbrev pub invariant-loop-number : goal.invariant-loop-number
invariant-loop-number l = AreUsed (map (text_at l.texts) (take l.number-index l.taken)) l.base (length l.taken) l.used.items
