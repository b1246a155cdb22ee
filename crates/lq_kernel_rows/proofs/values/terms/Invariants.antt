use Rattle.std.specs.List.{AllByRecursion}
use Rattle.lq_terms.specs.Terms.{Grows, HasTerm}
use Rattle.lq_kernel_rows.proofs.values.terms.Given as goal

-- the bank has grown, and has the terms so far
abbrev pub invariant-loop-text : goal.invariant-loop-text
invariant-loop-text l = record { grown : Grows l.initial.bank l.bank; has : AllByRecursion (HasTerm l.bank) l.terms.items }
