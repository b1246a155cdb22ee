use Rattle.std.proofs.Common.{map, take, length}
use Rattle.lq_terms.specs.Terms.{text_of}
use Rattle.lq_terms.specs.Numbers.{AreUsed}
use Rattle.lq_terms.proofs.numbers.used_numbers.Given as goal

abbrev pub invariant-loop-name : goal.invariant-loop-name
invariant-loop-name l = AreUsed (map (text_of l.bank) (take l.name-index l.taken)) (text_of l.bank l.base) (length l.taken) l.used.items
