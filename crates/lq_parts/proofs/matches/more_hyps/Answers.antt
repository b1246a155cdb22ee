use Rattle.std.proofs.Common.{arith, ◌∙◌, sym, ap, map}
use Rattle.lq_sentences.specs.Matches.{hyp}
use Rattle.lq_sentences.proofs.LoopLaws.{word_takes, read_shorter}
use Rattle.lq_ast.specs.PlainTactics.{plain_hyp}
use Rattle.lq_grammar.specs.declared.token.Symbol.TheVariants.{Comma}
use Rattle.lq_sentences.specs.Words.{is_sign}
use Rattle.lq_phrases.specs.Views.{placed_of}
use Rattle.lq_phrases.proofs.Loops.{many_from, many_step, map_more}
use Rattle.lq_parts.proofs.matches.more_hyps.Goals as goal

pub loop-alloc-smaller : goal.loop-alloc-smaller
loop-alloc-smaller c = omega (arith, word_takes _ _ _ _ _ c.in_ok-take.ensures, read_shorter (hyp c.args.levels) _ _ _ c.in_ok-hyp.ensures)

pub loop-alloc-preserved : goal.loop-alloc-preserved
loop-alloc-preserved c =
    many_step c.args.levels (is_sign Comma) (λ w. hyp c.args.levels) (map plain_hyp c.loop-alloc.found) c.loop-alloc.cursor (placed_of c.in_ok-take.field-0) c.take.new.self (plain_hyp c.in_ok-hyp.field-0) c.hyp.new.cursor
    c.loop-alloc.invariant (sym c.sees.ensures ∙ c.loop-alloc-test.true) c.in_ok-take.ensures c.in_ok-hyp.ensures
    ∙ ap (λ hs. many_from c.args.levels (is_sign Comma) (λ w. hyp c.args.levels) hs c.hyp.new.cursor)
    (sym (ap (map plain_hyp) c.in_ok-push.ensures.ok ∙ map_more plain_hyp c.loop-alloc.found c.in_ok-hyp.field-0))
