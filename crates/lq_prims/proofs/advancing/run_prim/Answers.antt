use Rattle.std.proofs.Common.{sym, ap}
use Rattle.std.proofs.Common.{subst as along}
use Rattle.lq_elab.specs.Calls.{ValuesStand}
use Rattle.lq_elab.specs.States.{givens_of}
use Rattle.lq_evars.specs.Places.{store_of}
use Rattle.lq_prims.proofs.advancing.run_prim.Goals as goal

pub advance-requires-clause-values_stand : goal.advance-requires-clause-values_stand
advance-requires-clause-values_stand g c = along (λ z. ValuesStand (store_of c.args.work.now.bank.now z) (givens_of c.args.work.now.bank.now c.args.values.now)) (sym (ap (λ z. z.store) c.in-Ok.ensures)) c.requires.values_stand
