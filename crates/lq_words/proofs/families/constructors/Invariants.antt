use Rattle.std.specs.List.{AllByRecursion}
use Rattle.lq_terms.specs.Terms.{Grows}
use Rattle.lq_env.specs.Families.{HasConstructor}
use Rattle.lq_words.proofs.families.constructors.Given as goal

-- the bank has grown, and has the constructors so far
abbrev pub invariant-loop-pair : goal.invariant-loop-pair
invariant-loop-pair l = record { grown : Grows l.initial.bank l.bank; has : AllByRecursion (HasConstructor l.bank) l.made }
