use Rattle.lq_kernel_rows.proofs.offers.answered.Given as goal

abbrev pub ghosts-answer : goal.ghosts-answer
ghosts-answer a = record { name = a.blank.name; parts = a.blank.parts }
