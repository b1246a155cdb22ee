use Rattle.std.proofs.Common.{◌<◌, length, ap, arith}
use Rattle.std.proofs.Common.{subst as along}
use Rattle.lq_evars.specs.declared.scopes.Around.{Around}
use Rattle.lq_evars.specs.declared.scopes.Link.{Link}
use Rattle.lq_evars.specs.Places.{store_of}
use Rattle.lq_evars.specs.Closures.{AroundIn, SameNames, scope_of}
use Rattle.lq_evars.proofs.Walks.{height, height_falls, below_around, below_place, below_names, inside_nearest, names_trans}
use Rattle.lq_evars.proofs.scopes.nearest.Goals as goal

nowhere : Link
nowhere = Link.Binders 0 0 Around.Nothing

pub loop-at-smaller : goal.loop-at-smaller
unfolding nowhere
loop-at-smaller c =
    let place : c.in-At.place < length c.args.links.now = along (λ z. AroundIn (length c.args.links.now) z) c.in-At.is c.loop-at.invariant.place in
    let e = ap height c.in-At.is in
    omega (arith, e, height_falls c.in-At.place c.in-Binders.rest (below_around c.args.bank.now (store_of c.args.bank.now c.args.store.now) c.args.links.now c.requires.links c.in-At.place nowhere place c.in-Binders.field-0 c.in-Binders.field-1 c.in-Binders.rest c.in-Binders.is))

pub loop-at-preserved : goal.loop-at-preserved
unfolding nowhere
loop-at-preserved c =
    let place : c.in-At.place < length c.args.links.now = along (λ z. AroundIn (length c.args.links.now) z) c.in-At.is c.loop-at.invariant.place in
    record {
      place = below_place c.args.bank.now (store_of c.args.bank.now c.args.store.now) c.args.links.now c.requires.links c.in-At.place nowhere place c.in-Binders.field-0 c.in-Binders.field-1 c.in-Binders.rest c.in-Binders.is;
      same =
          names_trans (store_of c.args.bank.now c.args.store.now) (scope_of c.args.bank.now c.args.links.now c.args.around) (scope_of c.args.bank.now c.args.links.now (Around.At c.in-At.place)) (scope_of c.args.bank.now c.args.links.now c.in-Binders.rest)
          (along (λ z. SameNames (store_of c.args.bank.now c.args.store.now) (scope_of c.args.bank.now c.args.links.now c.args.around) (scope_of c.args.bank.now c.args.links.now z)) c.in-At.is c.loop-at.invariant.same)
          (below_names c.args.bank.now (store_of c.args.bank.now c.args.store.now) c.args.links.now c.requires.links c.in-At.place nowhere place c.in-Binders.field-0 c.in-Binders.field-1 c.in-Binders.rest c.in-Binders.is);
    }

pub returns-in-Inside : goal.returns-in-Inside
unfolding nowhere
returns-in-Inside c =
    let place : c.in-At.place < length c.args.links.now = along (λ z. AroundIn (length c.args.links.now) z) c.in-At.is c.loop-at.invariant.place in
    inside_nearest c.args.bank.now (store_of c.args.bank.now c.args.store.now) c.args.links.now c.requires.links c.in-At.place nowhere place c.in-Inside.variable c.in-Inside.rest c.in-Inside.is c.args.around
    (along (λ z. SameNames (store_of c.args.bank.now c.args.store.now) (scope_of c.args.bank.now c.args.links.now c.args.around) (scope_of c.args.bank.now c.args.links.now z)) c.in-At.is c.loop-at.invariant.same)
