use Rattle.std.proofs.Common.{◌≡◌, length}
use Rattle.lq_grammar.specs.declared.token.Symbol.TheVariants.{Bar}
use Rattle.lq_sentences.specs.Words.{is_sign}
use Rattle.lq_sentences.specs.Rules.{read}
use Rattle.lq_sentences.specs.Parts.{many, names}
use Rattle.lq_phrases.proofs.Loops.{many_from}
use Rattle.lq_parts.proofs.primitives.more_branches.Given as goal

abbrev pub invariant-loop-alloc : goal.invariant-loop-alloc
invariant-loop-alloc l =
    read (many l.fn.levels (is_sign Bar) (λ w. names l.fn.levels) l.fn.found) l.fn.cursor
    ≡ many_from l.fn.levels (is_sign Bar) (λ w. names l.fn.levels) l.found l.cursor

abbrev pub decreases-loop-alloc : goal.decreases-loop-alloc
decreases-loop-alloc l = length l.cursor
