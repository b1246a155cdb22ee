use Rattle.std.proofs.Common.{◌≡◌, ◌+◌, ◌-◌, ◌≤◌, drop, length}
use Rattle.lq_phrases.specs.Views.{words_of}
use Rattle.lq_syntax.specs.Wholes.{fails_of}
use Rattle.lq_syntax.proofs.wholes.count_fails.Given as goal

abbrev pub invariant-fails : goal.invariant-fails
invariant-fails l = (l.count ≤ length l.words) × (fails_of (words_of l.words) ≡ l.count + fails_of (drop l.count (words_of l.words)))

abbrev pub decreases-fails : goal.decreases-fails
decreases-fails l = length l.words - l.count
