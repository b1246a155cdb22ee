use Rattle.lq_unify_rows.proofs.asking.told.Given as goal

abbrev pub ghosts-answer_to : goal.ghosts-answer_to
ghosts-answer_to a = record { name = a.blank.name; parts = a.blank.parts }
