use Rattle.std.proofs.Common.{◌≡◌, ℕ, ◌<◌, ◌≤◌, length, take}
use Rattle.std.specs.List.{AllByRecursion}
use Rattle.lq_terms.specs.declared.nodes.TermId.{TermId}
use Rattle.lq_terms.specs.Images.{IsMarked}
use Rattle.lq_terms.proofs.import.mark_each.Given as goal

abbrev pub invariant-loop-term : goal.invariant-loop-term
invariant-loop-term l = record {
  length : length l.marks.items ≡ length l.initial.marks.items;
  marked : AllByRecursion (IsMarked l.marks.items) (take l.term-index l.terms);
  kept : (t : TermId) → IsMarked l.initial.marks.items t → IsMarked l.marks.items t;
  others : (b : ℕ) → AllByRecursion (λ t. t.place < b) l.terms → (t : TermId) → b ≤ t.place → IsMarked l.marks.items t → IsMarked l.initial.marks.items t;
}
