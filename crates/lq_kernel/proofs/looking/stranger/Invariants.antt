use Rattle.std.proofs.Common.{◌≡◌, map}
use Rattle.std.specs.List.{AllByRecursion}
use Rattle.lq_terms.specs.Terms.{HasTerm, tree_of}
use Rattle.lq_terms.specs.Contexts.{context_of}
use Rattle.lq_calculus.specs.Checking.{strange}
use Rattle.lq_kernel.specs.Steps.{waiting, weight}
use Rattle.lq_kernel.proofs.looking.stranger.Given as goal

-- what waits on the stack is what the term holds
abbrev pub invariant-loop-part : goal.invariant-loop-part
invariant-loop-part l = record {
  has : AllByRecursion (HasTerm l.bank) l.stack.items;
  same : waiting (map (λ h. h.name) (context_of l.bank l.hypotheses)) l.bank l.stack.items ≡ strange (map (λ h. h.name) (context_of l.bank l.hypotheses)) (tree_of l.bank l.fn.term);
}

abbrev pub decreases-loop-part : goal.decreases-loop-part
decreases-loop-part l = weight (tree_of l.bank) l.stack.items
