use Rattle.std.proofs.Common.{arith, ◌∙◌, sym, ap}
use Rattle.lq_sentences.specs.Parts.{names}
use Rattle.lq_sentences.proofs.LoopLaws.{word_takes, read_shorter}
use Rattle.lq_grammar.specs.declared.token.Symbol.TheVariants.{Bar}
use Rattle.lq_sentences.specs.Words.{is_sign}
use Rattle.lq_phrases.specs.Views.{placed_of}
use Rattle.lq_phrases.proofs.Loops.{many_from, many_step}
use Rattle.lq_parts.proofs.primitives.more_branches.Goals as goal

pub loop-alloc-smaller : goal.loop-alloc-smaller
loop-alloc-smaller c = omega (arith, word_takes _ _ _ _ _ c.in_ok-take.ensures, read_shorter (names c.args.levels) _ _ _ c.in_ok-names.ensures)

pub loop-alloc-preserved : goal.loop-alloc-preserved
loop-alloc-preserved c =
    many_step c.args.levels (is_sign Bar) (λ w. names c.args.levels) c.loop-alloc.found c.loop-alloc.cursor (placed_of c.in_ok-take.field-0) c.take.new.self c.in_ok-names.field-0 c.names.new.cursor
    c.loop-alloc.invariant (sym c.sees.ensures ∙ c.loop-alloc-test.true) c.in_ok-take.ensures c.in_ok-names.ensures
    ∙ ap (λ ys. many_from c.args.levels (is_sign Bar) (λ w. names c.args.levels) ys c.names.new.cursor) (sym c.in_ok-push.ensures.ok)
