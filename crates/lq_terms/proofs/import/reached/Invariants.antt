use Rattle.std.proofs.Common.{◌≡◌, ◌≤◌, length}
use Rattle.lq_terms.specs.declared.nodes.TermId.{TermId}
use Rattle.lq_terms.specs.Images.{IsMarked, PartsMarked}
use Rattle.lq_terms.proofs.import.reached.Given as goal

abbrev pub invariant-loop-place : goal.invariant-loop-place
invariant-loop-place l = record {
  inside : l.place ≤ l.fn.term.place;
  length : length l.marks.items ≡ l.fn.term.place;
  parts : PartsMarked l.bank l.marks.items l.fn.term;
  closed : (t : TermId) → l.place ≤ t.place → IsMarked l.marks.items t → PartsMarked l.bank l.marks.items t;
}

abbrev pub decreases-loop-place : goal.decreases-loop-place
decreases-loop-place l = l.place
