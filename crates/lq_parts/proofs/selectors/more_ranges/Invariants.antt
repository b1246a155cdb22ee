use Rattle.std.proofs.Common.{◌≡◌, length}
use Rattle.lq_grammar.specs.declared.token.Symbol.TheVariants.{Comma}
use Rattle.lq_sentences.specs.Words.{is_sign}
use Rattle.lq_sentences.specs.Sentences.{range, all_levels}
use Rattle.lq_sentences.specs.Rules.{read}
use Rattle.lq_sentences.specs.Parts.{many}
use Rattle.lq_phrases.proofs.Loops.{many_from}
use Rattle.lq_parts.proofs.selectors.more_ranges.Given as goal

abbrev pub invariant-loop-cursor : goal.invariant-loop-cursor
invariant-loop-cursor l =
    read (many all_levels (is_sign Comma) (λ w. range) l.fn.found) l.fn.cursor
    ≡ many_from all_levels (is_sign Comma) (λ w. range) l.all l.cursor

abbrev pub decreases-loop-cursor : goal.decreases-loop-cursor
decreases-loop-cursor l = length l.cursor
