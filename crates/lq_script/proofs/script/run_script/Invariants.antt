use Rattle.lq_script.proofs.script.run_script.Given as goal

abbrev pub ghosts-run_sentences : goal.ghosts-run_sentences
ghosts-run_sentences a = record { name = a.blank.name; parts = a.blank.parts }
