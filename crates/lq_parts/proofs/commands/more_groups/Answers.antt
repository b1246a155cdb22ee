use Rattle.std.proofs.Common.{arith}
use Rattle.lq_sentences.specs.Terms.{group, term}
use Rattle.lq_sentences.specs.Patterns.{free_spot}
use Rattle.lq_sentences.proofs.LoopLaws.{word_takes, read_shorter}
use Rattle.lq_parts.proofs.commands.more_groups.Goals as goal

pub loop-alloc-smaller : goal.loop-alloc-smaller
loop-alloc-smaller c = omega (arith, word_takes _ _ _ _ _ c.in_ok-take.ensures, read_shorter (group 201 200 (term 200 free_spot)) _ _ _ c.in_ok-group.ensures)
