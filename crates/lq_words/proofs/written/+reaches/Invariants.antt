use Rattle.lq_words.proofs.written.+reaches.Given as goal

abbrev pub decreases-reaches : goal.decreases-reaches
decreases-reaches l = l.term.place
