use Rattle.std.proofs.Common.{arith}
use Rattle.lq_sentences.specs.Sentences.{range}
use Rattle.lq_sentences.proofs.LoopLaws.{word_takes, read_shorter}
use Rattle.lq_parts.proofs.selectors.more_ranges.Goals as goal

pub loop-cursor-smaller : goal.loop-cursor-smaller
loop-cursor-smaller c = omega (arith, word_takes _ _ _ _ _ c.in_ok-take.ensures, read_shorter range _ _ _ c.in_ok-range.ensures)
