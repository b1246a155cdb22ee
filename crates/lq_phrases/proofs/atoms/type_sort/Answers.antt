use Rattle.lq_sentences.proofs.LoopLaws.{word_passes}
use Rattle.lq_phrases.proofs.atoms.type_sort.Goals as goal

pub level_of-requires : goal.level_of-requires
level_of-requires c = word_passes _ _ _ _ _ c.in_ok-next.ensures
