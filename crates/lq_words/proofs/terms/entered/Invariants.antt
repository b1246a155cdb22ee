use Rattle.lq_words.specs.Low.{HasStack}
use Rattle.lq_words.proofs.terms.entered.Given as goal

-- the entries so far and the terms that are left have small numbers
abbrev pub invariant-loop : goal.invariant-loop
invariant-loop l = record { entries : HasStack l.bank l.entries; rest : HasStack l.bank l.stack.items }
