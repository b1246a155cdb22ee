use Rattle.std.proofs.Common.{◌≡◌, map, drop}
use Rattle.lq_terms.specs.Terms.{tree_of, text_of}
use Rattle.lq_calculus.specs.Declarations.{any_holds}
use Rattle.lq_env.proofs.spines.any_holds.Given as goal

-- the first of them that holds it is among those that are left
abbrev pub invariant-loop-term : goal.invariant-loop-term
invariant-loop-term l = any_holds (text_of l.bank l.name) (map (tree_of l.bank) (drop l.term-index l.terms)) ≡ any_holds (text_of l.bank l.name) (map (tree_of l.bank) l.terms)
