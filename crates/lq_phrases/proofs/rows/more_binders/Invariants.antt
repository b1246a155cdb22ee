use Rattle.std.proofs.Common.{◌≡◌, length, map}
use Rattle.lq_sentences.specs.Rules.{read}
use Rattle.lq_sentences.specs.Parts.{many, binder_word, is_binder}
use Rattle.lq_phrases.specs.Views.{binder_of}
use Rattle.lq_phrases.proofs.Loops.{many_from}
use Rattle.lq_phrases.proofs.rows.more_binders.Given as goal

abbrev pub invariant-loop-alloc : goal.invariant-loop-alloc
invariant-loop-alloc l = read (many l.fn.levels is_binder binder_word (map binder_of l.fn.found)) l.fn.cursor ≡ many_from l.fn.levels is_binder binder_word (map binder_of l.binders) l.cursor

abbrev pub decreases-loop-alloc : goal.decreases-loop-alloc
decreases-loop-alloc l = length l.cursor
