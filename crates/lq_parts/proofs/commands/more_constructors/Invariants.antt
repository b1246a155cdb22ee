use Rattle.std.proofs.Common.{◌≡◌, length, map}
use Rattle.lq_grammar.specs.declared.token.Symbol.TheVariants.{Bar}
use Rattle.lq_sentences.specs.Words.{is_sign}
use Rattle.lq_ast.specs.PlainCommands.{plain_constructor}
use Rattle.lq_sentences.specs.Sentences.{constructor, all_levels}
use Rattle.lq_sentences.specs.Rules.{read}
use Rattle.lq_sentences.specs.Parts.{many}
use Rattle.lq_phrases.proofs.Loops.{many_from}
use Rattle.lq_parts.proofs.commands.more_constructors.Given as goal

abbrev pub invariant-loop-alloc : goal.invariant-loop-alloc
invariant-loop-alloc l =
    read (many all_levels (is_sign Bar) (λ w. constructor) (map plain_constructor l.fn.found)) l.fn.cursor
    ≡ many_from all_levels (is_sign Bar) (λ w. constructor) (map plain_constructor l.found) l.cursor

abbrev pub decreases-loop-alloc : goal.decreases-loop-alloc
decreases-loop-alloc l = length l.cursor
