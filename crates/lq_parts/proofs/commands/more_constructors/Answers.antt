use Rattle.std.proofs.Common.{arith}
use Rattle.lq_sentences.specs.Sentences.{constructor}
use Rattle.lq_sentences.proofs.LoopLaws.{word_takes, read_shorter}
use Rattle.lq_parts.proofs.commands.more_constructors.Goals as goal

pub loop-alloc-smaller : goal.loop-alloc-smaller
loop-alloc-smaller c = omega (arith, word_takes _ _ _ _ _ c.in_ok-take.ensures, read_shorter constructor _ _ _ c.in_ok-constructor.ensures)
