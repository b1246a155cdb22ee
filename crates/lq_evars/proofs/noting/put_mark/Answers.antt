use Rattle.std.proofs.Common.{refl, ◌∷◌, [], ◌++◌}
use Rattle.lq_evars.specs.Places.{store_of}
use Rattle.lq_evars.proofs.Marks.{more_marks, mark_new}
use Rattle.lq_evars.proofs.noting.put_mark.Goals as goal

pub returns : goal.returns
returns c =
    more_marks c.args.bank.now (store_of c.args.bank.now c.args.store.now) c.args.links.now (c.args.work.now ++ c.args.pair ∷ []) c.push.new.self.items c.args.marks.now.items _ c.in_ok-push.ensures.items c.requires
    (mark_new c.args.bank.now (store_of c.args.bank.now c.args.store.now) c.args.links.now c.args.work.now c.args.pair _ refl (c.is_alone.ensures.around c.if-not-is_alone.false) (c.is_alone.ensures.base c.if-not-is_alone.false)
    (c.is_alone-2.ensures.around c.if-not-is_alone-2.false) (c.is_alone-2.ensures.base c.if-not-is_alone-2.false))
