use Rattle.std.proofs.Common.{◌≡◌, length}
use Rattle.lq_sentences.specs.Rules.{read}
use Rattle.lq_sentences.specs.Parts.{many}
use Rattle.lq_sentences.specs.Arguments.{begins_message, message_word}
use Rattle.lq_phrases.specs.Views.{ends_of}
use Rattle.lq_phrases.proofs.Loops.{many_from}
use Rattle.lq_parts.proofs.sayings.more_messages.Given as goal

abbrev pub invariant-loop-alloc : goal.invariant-loop-alloc
invariant-loop-alloc l =
    read (many l.fn.levels (begins_message (ends_of l.fn.ends)) message_word l.fn.found) l.fn.cursor ≡ many_from l.fn.levels (begins_message (ends_of l.fn.ends)) message_word l.found l.cursor

abbrev pub decreases-loop-alloc : goal.decreases-loop-alloc
decreases-loop-alloc l = length l.cursor
