use Rattle.std.specs.List.{AllByRecursion}
use Rattle.lq_terms.specs.Terms.{Grows, HasName}
use Rattle.lq_kernel_rows.proofs.bank_rows.names.Given as goal

-- the bank has grown, and has the names so far
abbrev pub invariant-loop-word : goal.invariant-loop-word
invariant-loop-word l = record { grown : Grows l.initial.bank l.bank; has : AllByRecursion (HasName l.bank) l.names.items }
