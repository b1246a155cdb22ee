use Rattle.std.proofs.Common.{arith}
use Rattle.lq_sentences.proofs.LoopLaws.{word_takes}
use Rattle.lq_parts.proofs.sayings.more_messages.Goals as goal

pub loop-alloc-smaller : goal.loop-alloc-smaller
loop-alloc-smaller c = omega (arith, word_takes _ _ _ _ _ c.in_ok-next.ensures)
