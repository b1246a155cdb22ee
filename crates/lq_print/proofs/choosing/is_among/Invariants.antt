use Rattle.std.proofs.Common.{◌≡◌, map, drop}
use Rattle.lq_trees.specs.Fresh.{is_listed}
use Rattle.lq_print.specs.Tables.{text_at}
use Rattle.lq_print.proofs.choosing.is_among.Given as goal

-- the text is one of them exactly where it is one of those that are left
abbrev pub invariant-loop-other : goal.invariant-loop-other
invariant-loop-other l = is_listed (map (text_at l.texts) l.numbers) l.text ≡ is_listed (map (text_at l.texts) (drop l.other-index l.numbers)) l.text
