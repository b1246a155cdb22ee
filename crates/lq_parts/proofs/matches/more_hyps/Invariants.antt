use Rattle.std.proofs.Common.{◌≡◌, length, map}
use Rattle.lq_grammar.specs.declared.token.Symbol.TheVariants.{Comma}
use Rattle.lq_ast.specs.PlainTactics.{plain_hyp}
use Rattle.lq_sentences.specs.Words.{is_sign}
use Rattle.lq_sentences.specs.Rules.{read}
use Rattle.lq_sentences.specs.Parts.{many}
use Rattle.lq_sentences.specs.Matches.{hyp}
use Rattle.lq_phrases.proofs.Loops.{many_from}
use Rattle.lq_parts.proofs.matches.more_hyps.Given as goal

abbrev pub invariant-loop-alloc : goal.invariant-loop-alloc
invariant-loop-alloc l =
    read (many l.fn.levels (is_sign Comma) (λ w. hyp l.fn.levels) (map plain_hyp l.fn.found)) l.fn.cursor
    ≡ many_from l.fn.levels (is_sign Comma) (λ w. hyp l.fn.levels) (map plain_hyp l.found) l.cursor

abbrev pub decreases-loop-alloc : goal.decreases-loop-alloc
decreases-loop-alloc l = length l.cursor
