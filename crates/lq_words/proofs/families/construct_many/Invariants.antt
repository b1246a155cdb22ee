use Rattle.std.specs.List.{AllByRecursion}
use Rattle.lq_terms.specs.Terms.{Grows}
use Rattle.lq_env.specs.Families.{HasConstructor}
use Rattle.lq_words.specs.Low.{IsLow}
use Rattle.lq_words.proofs.families.construct_many.Given as goal

-- the bank has grown, and has the constructors so far and the type
abbrev pub invariant-loop-index : goal.invariant-loop-index
invariant-loop-index l = record { grown : Grows l.initial.bank l.bank; has : AllByRecursion (HasConstructor l.bank) l.constructors; kind : IsLow l.bank l.kind }
