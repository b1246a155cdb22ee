use Rattle.std.proofs.Common.{arith, ◌∷◌, [], ◌++◌}
use Rattle.lq_evars.specs.Places.{store_of}
use Rattle.lq_evars.proofs.Marks.{mark_done, last_mark}
use Rattle.lq_evars.proofs.noting.note_marks.Goals as goal

pub note-requires-clause-same : goal.note-requires-clause-same
note-requires-clause-same c =
    mark_done c.args.bank.now (store_of c.args.bank.now c.args.store.now) c.args.links.now c.args.work.now c.args.pair c.in-Some.mark
    (last_mark c.args.bank.now (store_of c.args.bank.now c.args.store.now) c.args.links.now (c.args.work.now ++ c.args.pair ∷ []) c.loop-mark.marks.items c.pop.new.self.items c.in-Some.mark c.in-Some.ensures.items c.loop-mark.invariant.marks).1
    (omega (arith, c.if-mark-work.false))
