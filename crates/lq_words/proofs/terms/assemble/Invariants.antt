use Rattle.std.proofs.Common.{◌≤◌, length}
use Rattle.lq_terms.specs.Terms.{Grows}
use Rattle.lq_words.specs.Low.{HasStack}
use Rattle.lq_words.proofs.terms.assemble.Given as goal

-- the stack lies in the bank, which has grown
abbrev pub invariant-loop-left : goal.invariant-loop-left
invariant-loop-left l = Grows l.initial.bank l.bank × HasStack l.bank l.stack.items × (l.left ≤ length l.steps)

abbrev pub decreases-loop-left : goal.decreases-loop-left
decreases-loop-left l = l.left
