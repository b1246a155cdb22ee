use Rattle.std.proofs.Common.{◌≡◌, map, take}
use Rattle.lq_terms.specs.Sound.{class_at}
use Rattle.lq_terms.proofs.entries.classes_at.Given as goal

abbrev pub invariant-loop-term : goal.invariant-loop-term
invariant-loop-term l = l.classes ≡ map (class_at l.entries.entries) (take l.term-index l.terms)
