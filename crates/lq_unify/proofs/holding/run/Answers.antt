use Rattle.lq_terms.specs.Terms.{tree_of}
use Rattle.lq_evars.specs.Places.{store_of}
use Rattle.lq_unify.proofs.LookLaws.{turn_lighter, turn_covers}
use Rattle.lq_unify.proofs.holding.run.Goals as goal

pub loop-item-smaller : goal.loop-item-smaller
loop-item-smaller c = turn_lighter c.args.bank.now (store_of c.args.bank.now c.args.store.now) c.args.barred c.loop-item.work.items c.pop.new.self.items c.step.new.work.items c.in-Some.item c.loop-item.known.entries c.step.new.known.entries c.in-Some.ensures.items c.in_ok-step.ensures

pub loop-item-preserved : goal.loop-item-preserved
loop-item-preserved c = record {
  looking = c.in_ok-step.ensures.looking;
  covers = turn_covers c.args.bank.now (store_of c.args.bank.now c.args.store.now) c.args.barred c.loop-item.work.items c.pop.new.self.items c.step.new.work.items c.in-Some.item c.loop-item.known.entries c.step.new.known.entries c.in-Some.ensures.items c.in_ok-step.ensures (tree_of c.args.bank.now c.args.term) c.loop-item.invariant.covers;
}
