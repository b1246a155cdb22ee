use Rattle.std.proofs.Common.{◌<◌, ◌≤◌, length, sym, ap, ◌∙◌, arith}
use Rattle.std.proofs.Common.{subst as along}
use Rattle.lq_evars.specs.declared.scopes.Around.{Around}
use Rattle.lq_evars.specs.declared.scopes.Link.{Link}
use Rattle.lq_evars.specs.Places.{store_of}
use Rattle.lq_evars.specs.Scopes.{outer}
use Rattle.lq_evars.specs.Closures.{AroundIn, scope_of}
use Rattle.lq_evars.proofs.Walks.{height, height_falls, below_around, below_place, below_first, below_later, inside_outer}
use Rattle.lq_evars.proofs.scopes.outer_index.Goals as goal

nowhere : Link
nowhere = Link.Binders 0 0 Around.Nothing

pub returns-then-left-count : goal.returns-then-left-count
unfolding nowhere
returns-then-left-count c =
    let place : c.in-At.place < length c.args.links.now = along (λ z. AroundIn (length c.args.links.now) z) c.in-At.is c.loop-at.invariant.place in
    c.outer_place.ensures
    ∙ sym (below_first c.args.bank.now (store_of c.args.bank.now c.args.store.now) c.args.links.now c.requires.links c.in-At.place nowhere place c.in-Binders.count c.in-Binders.end c.in-Binders.rest c.in-Binders.is c.args.depth c.loop-at.left (omega (arith, c.if-left-count.true)))
    ∙ ap (λ z. outer (scope_of c.args.bank.now c.args.links.now z) c.args.depth c.loop-at.left) (sym c.in-At.is) ∙ c.loop-at.invariant.same

pub loop-at-smaller : goal.loop-at-smaller
unfolding nowhere
loop-at-smaller c =
    let place : c.in-At.place < length c.args.links.now = along (λ z. AroundIn (length c.args.links.now) z) c.in-At.is c.loop-at.invariant.place in
    let e = ap height c.in-At.is in
    omega (arith, e, height_falls c.in-At.place c.in-Binders.rest (below_around c.args.bank.now (store_of c.args.bank.now c.args.store.now) c.args.links.now c.requires.links c.in-At.place nowhere place c.in-Binders.count c.in-Binders.end c.in-Binders.rest c.in-Binders.is))

pub loop-at-preserved : goal.loop-at-preserved
unfolding nowhere
loop-at-preserved c =
    let place : c.in-At.place < length c.args.links.now = along (λ z. AroundIn (length c.args.links.now) z) c.in-At.is c.loop-at.invariant.place in
    let later : c.in-Binders.count ≤ c.loop-at.left = omega (arith, c.if-left-count.false) in
    record {
      place = below_place c.args.bank.now (store_of c.args.bank.now c.args.store.now) c.args.links.now c.requires.links c.in-At.place nowhere place c.in-Binders.count c.in-Binders.end c.in-Binders.rest c.in-Binders.is;
      left = omega (arith, c.loop-at.invariant.left);
      same =
          sym (below_later c.args.bank.now (store_of c.args.bank.now c.args.store.now) c.args.links.now c.requires.links c.in-At.place nowhere place c.in-Binders.count c.in-Binders.end c.in-Binders.rest c.in-Binders.is c.args.depth c.loop-at.left later)
          ∙ ap (λ z. outer (scope_of c.args.bank.now c.args.links.now z) c.args.depth c.loop-at.left) (sym c.in-At.is) ∙ c.loop-at.invariant.same;
    }

pub returns-in-Inside : goal.returns-in-Inside
unfolding nowhere
returns-in-Inside c =
    let place : c.in-At.place < length c.args.links.now = along (λ z. AroundIn (length c.args.links.now) z) c.in-At.is c.loop-at.invariant.place in
    sym (inside_outer c.args.bank.now (store_of c.args.bank.now c.args.store.now) c.args.links.now c.requires.links c.in-At.place nowhere place c.in-Inside.field-0 c.in-Inside.field-1 c.in-Inside.is c.args.depth c.loop-at.left)
    ∙ ap (λ z. outer (scope_of c.args.bank.now c.args.links.now z) c.args.depth c.loop-at.left) (sym c.in-At.is) ∙ c.loop-at.invariant.same
