use Rattle.lq_terms.specs.Terms.{tree_of}
use Rattle.lq_terms.proofs.Growth.{Grows-trans}
use Rattle.lq_evars.proofs.Stepping.{turn_lighter, turn_covers}
use Rattle.lq_evars.proofs.reading.run.Goals as goal

pub loop-item-smaller : goal.loop-item-smaller
loop-item-smaller c = turn_lighter c.args.bank.now c.loop-item.bank c.step.new.bank c.args.store.now c.loop-item.work.items c.pop.new.self.items c.step.new.work.items c.in-Some.item c.loop-item.known.entries c.step.new.known.entries c.loop-item.invariant.grown c.requires.reading.store c.in-Some.ensures.items c.in_ok-step.ensures.stepped

pub loop-item-preserved : goal.loop-item-preserved
loop-item-preserved c = record {
  grown = Grows-trans c.args.bank.now c.loop-item.bank c.step.new.bank c.loop-item.invariant.grown c.in_ok-step.ensures.grows;
  reading = c.in_ok-step.ensures.stepped.reading;
  covers = turn_covers c.args.bank.now c.loop-item.bank c.step.new.bank c.args.store.now c.loop-item.work.items c.pop.new.self.items c.step.new.work.items c.in-Some.item c.loop-item.known.entries c.step.new.known.entries c.loop-item.invariant.grown c.requires.reading.store c.in-Some.ensures.items c.in_ok-step.ensures.stepped (tree_of c.args.bank.now c.args.term) c.loop-item.invariant.covers;
}
