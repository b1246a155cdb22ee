use Rattle.std.specs.List.{AllByRecursion}
use Rattle.lq_trees.specs.Index.{EachWithin}
use Rattle.lq_terms.specs.Terms.{HasTerm, tree_of, trees_by}
use Rattle.lq_words.specs.Low.{low_bound}
use Rattle.lq_words.proofs.terms.variable.Given as goal

-- the entries lie in the bank, and their numbers are small
abbrev pub invariant-loop : goal.invariant-loop
invariant-loop l = record { has : AllByRecursion (HasTerm l.bank) l.entries; few : EachWithin low_bound (trees_by (tree_of l.bank) l.entries) }
