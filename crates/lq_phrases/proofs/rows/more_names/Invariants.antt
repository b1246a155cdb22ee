use Rattle.std.proofs.Common.{◌≡◌, length}
use Rattle.lq_sentences.specs.Rules.{read}
use Rattle.lq_sentences.specs.Parts.{many, name_word}
use Rattle.lq_phrases.specs.Views.{test_of}
use Rattle.lq_phrases.proofs.Loops.{many_from}
use Rattle.lq_phrases.proofs.rows.more_names.Given as goal

abbrev pub invariant-loop-alloc : goal.invariant-loop-alloc
invariant-loop-alloc l = read (many l.fn.levels (test_of l.fn.test) name_word l.fn.found) l.fn.cursor ≡ many_from l.fn.levels (test_of l.fn.test) name_word l.names l.cursor

abbrev pub decreases-loop-alloc : goal.decreases-loop-alloc
decreases-loop-alloc l = length l.cursor
