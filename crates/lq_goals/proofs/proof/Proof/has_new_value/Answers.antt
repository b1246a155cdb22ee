use Rattle.lq_goals.proofs.ListLoops.{quiet_on}
use Rattle.lq_goals.proofs.proof.Proof.has_new_value.Goals as goal

pub loop-place-preserved : goal.loop-place-preserved
loop-place-preserved c =
    λ a. c.loop-place.invariant (quiet_on c.args.self.now.seen c.args.taken.now c.args.self.now.store.values c.loop-place.place (c.is_new_value.ensures c.if-is_new_value.false) a)
