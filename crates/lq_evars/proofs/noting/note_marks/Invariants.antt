use Rattle.std.proofs.Common.{vec_len, ◌∷◌, [], ◌++◌}
use Rattle.lq_evars.specs.Places.{store_of}
use Rattle.lq_evars.specs.Noting.{AreSame, AreMarks}
use Rattle.lq_evars.proofs.noting.note_marks.Given as goal

abbrev pub invariant-loop-mark : goal.invariant-loop-mark
invariant-loop-mark l = record {
  known : AreSame l.bank (store_of l.bank l.store) l.known.entries;
  marks : AreMarks l.bank (store_of l.bank l.store) l.links (l.work ++ l.fn.pair ∷ []) l.marks.items;
}

abbrev pub decreases-loop-mark : goal.decreases-loop-mark
decreases-loop-mark l = vec_len l.marks
