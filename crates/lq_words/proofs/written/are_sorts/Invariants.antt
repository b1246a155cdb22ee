use Rattle.std.proofs.Common.{drop}
use Rattle.std.specs.List.{AllByRecursion}
use Rattle.lq_env.specs.Families.{IsSort}
use Rattle.lq_words.proofs.written.are_sorts.Given as goal

-- all are sorts, if those are that are left
abbrev pub invariant-loop-sort : goal.invariant-loop-sort
invariant-loop-sort l = AllByRecursion IsSort (drop l.sort-index l.sorts) → AllByRecursion IsSort l.sorts
