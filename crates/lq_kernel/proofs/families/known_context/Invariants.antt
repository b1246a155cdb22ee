use Rattle.std.proofs.Common.{◌≡◌, [], take, drop}
use Rattle.lq_terms.specs.Contexts.{context_of}
use Rattle.lq_calculus.specs.Checking.{known_context}
use Rattle.lq_kernel.proofs.families.known_context.Given as goal

-- the look goes on behind those so far
abbrev pub invariant-loop-hypothesis : goal.invariant-loop-hypothesis
invariant-loop-hypothesis l = record {
  items : l.hypothesis-items ≡ l.telescope;
  before : l.before ≡ take l.hypothesis-index l.hypothesis-items;
  so_far : known_context [] (context_of l.bank l.hypothesis-items) ≡ known_context (context_of l.bank (take l.hypothesis-index l.hypothesis-items)) (context_of l.bank (drop l.hypothesis-index l.hypothesis-items));
}
