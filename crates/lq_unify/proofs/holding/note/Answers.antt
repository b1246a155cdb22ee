use Rattle.std.proofs.Common.{refl, sym}
use Rattle.std.proofs.Common.{subst as along}
use Rattle.lq_evars.specs.Places.{store_of}
use Rattle.lq_evars.specs.Reading.{IsIn}
use Rattle.lq_unify.specs.Holding.{AreHeld, trees_held}
use Rattle.lq_unify.proofs.HoldLaws.{noted_held, noted_in}
use Rattle.lq_unify.proofs.holding.note.Goals as goal

pub returns-in-Ok-clause-held : goal.returns-in-Ok-clause-held
returns-in-Ok-clause-held c =
    along (AreHeld c.args.bank.now (store_of c.args.bank.now c.args.store.now) c.args.barred) (sym c.in-Ok.ensures.entries)
    (noted_held c.args.bank.now (store_of c.args.bank.now c.args.store.now) c.args.barred _ (λ x y. refl) c.args.known.now.entries c.args.term c.args.holding c.requires.known c.requires.holding)

pub returns-in-Ok-clause-covers : goal.returns-in-Ok-clause-covers
returns-in-Ok-clause-covers c = λ t h.
    along (λ es. IsIn t (trees_held c.args.bank.now es)) (sym c.in-Ok.ensures.entries)
    (noted_in c.args.bank.now (store_of c.args.bank.now c.args.store.now) c.args.barred _ (λ x y. refl) c.args.known.now.entries c.args.term c.args.holding t h)
