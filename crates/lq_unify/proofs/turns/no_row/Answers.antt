use Rattle.std.proofs.Common.{subst as along}
use Rattle.lq_unify.specs.Turns.{NoRow}
use Rattle.lq_unify.proofs.turns.no_row.Goals as goal

pub returns-then-first-clause-stands : goal.returns-then-first-clause-stands
returns-then-first-clause-stands c = λ bank s hs fs w k. record { work = w; stands = k }

pub returns-then-first-clause-goes : goal.returns-then-first-clause-goes
returns-then-first-clause-goes c = λ bank s hs fs r f b l h. along (λ z. NoRow z r f b l bank s hs fs c.args.pair) c.if-first.true h

pub returns-else-first-clause-stands : goal.returns-else-first-clause-stands
returns-else-first-clause-stands c = λ bank s hs fs w k. record { work = w; stands = tt }

pub returns-else-first-clause-goes : goal.returns-else-first-clause-goes
returns-else-first-clause-goes c = λ bank s hs fs r f b l h. along (λ z. NoRow z r f b l bank s hs fs c.args.pair) c.if-first.false h
