use Rattle.lq_words.proofs.written.+stands.Given as goal

abbrev pub decreases-stands : goal.decreases-stands
decreases-stands l = l.term.place
