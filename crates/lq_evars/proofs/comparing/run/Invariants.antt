use Rattle.std.proofs.Common.{◌≡◌, []}
use Rattle.lq_evars.specs.Places.{store_of}
use Rattle.lq_evars.specs.Closures.{Comparing, same_pairs, same_pair, pairs_steps}
use Rattle.lq_evars.specs.Noting.{AreSame, AreMarks}
use Rattle.lq_evars.proofs.comparing.run.Given as goal

abbrev pub invariant-loop-next : goal.invariant-loop-next
invariant-loop-next l = record {
  comparing : Comparing l.bank (store_of l.bank l.store) l.links.items l.work.items;
  same : same_pairs l.bank (store_of l.bank l.store) l.links.items l.work.items ≡ same_pair l.bank (store_of l.bank l.store) [] l.fn.pair;
  known : AreSame l.bank (store_of l.bank l.store) l.known.entries;
  marks : AreMarks l.bank (store_of l.bank l.store) l.links.items l.work.items l.marks.items;
}

abbrev pub decreases-loop-next : goal.decreases-loop-next
decreases-loop-next l = pairs_steps l.bank (store_of l.bank l.store) l.links.items l.work.items
