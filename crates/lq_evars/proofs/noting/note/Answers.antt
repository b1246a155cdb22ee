use Rattle.std.proofs.Common.{refl, sym}
use Rattle.std.proofs.Common.{subst as along}
use Rattle.lq_evars.specs.Places.{store_of}
use Rattle.lq_evars.specs.Noting.{AreSame}
use Rattle.lq_evars.proofs.Marks.{noted_same}
use Rattle.lq_evars.proofs.noting.note.Goals as goal

pub returns-in-Ok : goal.returns-in-Ok
returns-in-Ok c =
    along (AreSame c.args.bank.now (store_of c.args.bank.now c.args.store.now)) (sym c.in-Ok.ensures.entries)
    (noted_same _ (λ x y. refl) c.args.bank.now (store_of c.args.bank.now c.args.store.now) c.args.known.now.entries c.args.left c.args.right c.requires.known c.requires.same)
