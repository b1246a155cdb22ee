-- What a refusal of elaboration tells of the work of a sentence.
use Rattle.std.proofs.Common.{ℕ}
use Rattle.lq_terms.specs.Terms.{Terms}
use Rattle.lq_solving.specs.ElabFaults.{Elab}
use Rattle.lq_typing.specs.declared.faults.ElabFault.{ElabFault}
use Rattle.lq_typing.specs.Refusals.{Refuses}
use Rattle.lq_sessions.specs.Told.{of_elab}
use Rattle.lq_sessions.specs.Sessions.{told_as}
use Rattle.lq_causes.specs.Stopping.{Stops}
use Rattle.lq_causes.proofs.StopLaws.{comes_told}
use Rattle.lq_elaborated.specs.Faults.{elab_stop}

pub elab_stops : {A : Type 0} (bank : Terms) (fault : ElabFault) (f : ℕ → Elab A) (b left : ℕ) → Refuses bank fault f b left →
    Stops bank (elab_stop fault) (λ n. told_as of_elab (f n)) b left
unfolding of_elab
elab_stops bank (ElabFault.Unknown x) f b left r = (r.0, comes_told of_elab f b _ r.1)
elab_stops bank (ElabFault.Mismatch t u) f b left r = ((r.0, r.1), comes_told of_elab f b _ r.2)
elab_stops bank (ElabFault.NotAProduct t) f b left r = (r.0, comes_told of_elab f b _ r.1)
elab_stops bank ElabFault.NoSortAbove f b left r = (tt, comes_told of_elab f b _ r)
elab_stops bank (ElabFault.CannotInfer p) f b left r = (tt, comes_told of_elab f b _ r)
elab_stops bank (ElabFault.NotASort t) f b left r = (r.0, comes_told of_elab f b _ r.1)
elab_stops bank (ElabFault.ElimForbidden x s) f b left r = (r.0, comes_told of_elab f b _ r.1)
elab_stops bank (ElabFault.NameInUse x) f b left r = (r.0, comes_told of_elab f b _ r.1)
elab_stops bank ElabFault.StepsOut f b left r = (tt, comes_told of_elab f b _ r.0)
elab_stops bank ElabFault.TooLarge f b left r = (tt, comes_told of_elab f b _ r)
elab_stops bank ElabFault.TooDeep f b left r = (tt, comes_told of_elab f b _ r)
elab_stops bank ElabFault.Full f b left r = (tt, comes_told of_elab f b _ r)
elab_stops bank (ElabFault.NotATerm x) f b left r = (r.0, comes_told of_elab f b _ r.1)
elab_stops bank ElabFault.NoMemory f b left r = tt
