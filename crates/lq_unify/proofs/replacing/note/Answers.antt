use Rattle.std.proofs.Common.{sym, refl}
use Rattle.std.proofs.Common.{subst as along}
use Rattle.lq_unify.specs.Solutions.{AreSolved}
use Rattle.lq_unify.proofs.PlaceLaws.{noted}
use Rattle.lq_unify.proofs.replacing.note.Goals as goal

pub returns-in-Ok : goal.returns-in-Ok
returns-in-Ok c =
    along (AreSolved c.args.bank.now c.args.how.barred c.args.how.stays c.args.places.now.entries) (sym c.in-Ok.ensures.entries)
    (noted c.args.bank.now c.args.how.barred c.args.how.stays c.args.places.now.entries _ (λ x y. refl) c.args.known.now.entries c.args.part c.args.answer c.requires.known
    (record { whole = c.requires.part; has = c.requires.answer; is = c.requires.is }))
