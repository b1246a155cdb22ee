use Rattle.std.proofs.Common.{◌≡◌, take, map}
use Rattle.std.specs.List.{AllByRecursion}
use Rattle.lq_calculus.specs.Declarations.{variables}
use Rattle.lq_terms.specs.Terms.{HasTerm, Grows, tree_of}
use Rattle.lq_terms.specs.Contexts.{context_of}
use Rattle.lq_prims.proofs.standing.own_entries.Given as goal

-- those before stand for themselves
abbrev pub invariant-loop-hypothesis : goal.invariant-loop-hypothesis
invariant-loop-hypothesis l = record {
  has : AllByRecursion (HasTerm l.bank) l.entries;
  own : map (tree_of l.bank) l.entries ≡ variables (context_of l.initial.bank (take l.hypothesis-index l.context));
  grows : Grows l.initial.bank l.bank;
}
