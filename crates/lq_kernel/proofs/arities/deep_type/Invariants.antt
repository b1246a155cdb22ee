use Rattle.lq_trees.specs.declared.Sort.{Sort as Universe}
use Rattle.lq_trees.specs.Tree.{Tree}
use Rattle.lq_terms.specs.Terms.{IsTerm, Grows, text_of}
use Rattle.lq_kernel.specs.Declaring.{chained}
use Rattle.lq_kernel.proofs.arities.deep_type.Given as goal

-- so many products were made
abbrev pub invariant-loop-i : goal.invariant-loop-i
invariant-loop-i l = record {
  grows : Grows l.initial.bank l.bank;
  domain : IsTerm l.bank l.domain (Tree.Sort Universe.Base);
  made : IsTerm l.bank l.kind (chained (text_of l.initial.bank l.binder) l.i);
}
