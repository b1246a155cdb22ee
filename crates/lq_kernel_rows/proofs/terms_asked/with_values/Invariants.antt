use Rattle.lq_kernel_rows.proofs.terms_asked.with_values.Given as goal

abbrev pub ghosts-answer_to : goal.ghosts-answer_to
ghosts-answer_to a = record { name = a.blank.name; parts = a.blank.parts }
