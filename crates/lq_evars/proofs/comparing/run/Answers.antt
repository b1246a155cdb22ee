use Rattle.std.proofs.Common.{◌∙◌, sym, ap, arith, [], ◌∷◌, ◌++◌}
use Rattle.std.proofs.Common.{subst as along}
use Rattle.lq_evars.specs.Places.{store_of}
use Rattle.lq_evars.specs.Closures.{Comparing, ComparesTo, StandFor, same_pairs, pairs_steps}
use Rattle.lq_evars.proofs.Comparings.{pair_shallow, pairs_differ, still_comparing, still_same, still_falls}
use Rattle.lq_evars.proofs.Marks.{marks_stay}
use Rattle.lq_evars.proofs.comparing.run.Goals as goal

pub step-requires-clause-shallow : goal.step-requires-clause-shallow
step-requires-clause-shallow c =
    pair_shallow c.args.bank.now (store_of c.args.bank.now c.args.store.now) c.loop-next.links.items c.pop.new.self.items c.in-Some.next
    (along (Comparing c.args.bank.now (store_of c.args.bank.now c.args.store.now) c.loop-next.links.items) c.in-Some.ensures.items c.loop-next.invariant.comparing)

pub returns-then-not-branch : goal.returns-then-not-branch
returns-then-not-branch c =
    sym (pairs_differ c.args.bank.now (store_of c.args.bank.now c.args.store.now) c.loop-next.links.items c.pop.new.self.items c.in-Some.next
    (along (Comparing c.args.bank.now (store_of c.args.bank.now c.args.store.now) c.loop-next.links.items) c.in-Some.ensures.items c.loop-next.invariant.comparing)
    (along (ComparesTo c.args.bank.now (store_of c.args.bank.now c.args.store.now) c.loop-next.links.items c.step.new.links.items c.in-Some.next c.pop.new.self.items c.step.new.work.items) c.if-not-branch.true c.in_ok-step.ensures.compared))
    ∙ ap (same_pairs c.args.bank.now (store_of c.args.bank.now c.args.store.now) c.loop-next.links.items) (sym c.in-Some.ensures.items) ∙ c.loop-next.invariant.same

pub loop-next-smaller : goal.loop-next-smaller
loop-next-smaller c =
    let comparing : Comparing c.args.bank.now (store_of c.args.bank.now c.args.store.now) c.loop-next.links.items (c.pop.new.self.items ++ c.in-Some.next ∷ []) =
    along (Comparing c.args.bank.now (store_of c.args.bank.now c.args.store.now) c.loop-next.links.items) c.in-Some.ensures.items c.loop-next.invariant.comparing in
    let stands : StandFor c.args.bank.now (store_of c.args.bank.now c.args.store.now) c.loop-next.links.items c.step.new.links.items c.in-Some.next c.pop.new.self.items c.step.new.work.items =
    along (ComparesTo c.args.bank.now (store_of c.args.bank.now c.args.store.now) c.loop-next.links.items c.step.new.links.items c.in-Some.next c.pop.new.self.items c.step.new.work.items) c.if-not-branch.false c.in_ok-step.ensures.compared in
    omega (
      arith,
      still_falls c.args.bank.now (store_of c.args.bank.now c.args.store.now) c.loop-next.links.items c.pop.new.self.items c.in-Some.next comparing c.step.new.links.items c.step.new.work.items stands,
      ap (pairs_steps c.args.bank.now (store_of c.args.bank.now c.args.store.now) c.loop-next.links.items) c.in-Some.ensures.items,
    )

pub loop-next-preserved : goal.loop-next-preserved
loop-next-preserved c =
    let comparing : Comparing c.args.bank.now (store_of c.args.bank.now c.args.store.now) c.loop-next.links.items (c.pop.new.self.items ++ c.in-Some.next ∷ []) =
    along (Comparing c.args.bank.now (store_of c.args.bank.now c.args.store.now) c.loop-next.links.items) c.in-Some.ensures.items c.loop-next.invariant.comparing in
    let stands : StandFor c.args.bank.now (store_of c.args.bank.now c.args.store.now) c.loop-next.links.items c.step.new.links.items c.in-Some.next c.pop.new.self.items c.step.new.work.items =
    along (ComparesTo c.args.bank.now (store_of c.args.bank.now c.args.store.now) c.loop-next.links.items c.step.new.links.items c.in-Some.next c.pop.new.self.items c.step.new.work.items) c.if-not-branch.false c.in_ok-step.ensures.compared in
    record {
      comparing = still_comparing c.args.bank.now (store_of c.args.bank.now c.args.store.now) c.loop-next.links.items c.pop.new.self.items c.in-Some.next comparing c.step.new.links.items c.step.new.work.items stands;
      same =
          still_same c.args.bank.now (store_of c.args.bank.now c.args.store.now) c.loop-next.links.items c.pop.new.self.items c.in-Some.next comparing c.step.new.links.items c.step.new.work.items stands
          ∙ ap (same_pairs c.args.bank.now (store_of c.args.bank.now c.args.store.now) c.loop-next.links.items) (sym c.in-Some.ensures.items) ∙ c.loop-next.invariant.same;
      known = c.in_ok-note_marks.ensures.known;
      marks =
          marks_stay c.args.bank.now (store_of c.args.bank.now c.args.store.now) c.loop-next.links.items c.step.new.links.items c.pop.new.self.items c.step.new.work.items c.in-Some.next comparing stands c.step.new.marks.items
          c.in_ok-step.ensures.marks;
    }
