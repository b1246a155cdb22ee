use Rattle.std.proofs.Common.{arith, OnOk}
use Rattle.std.proofs.Common.{subst as along}
use Rattle.lq_solving.proofs.ElabKept.{Grown}
use Rattle.lq_evars.specs.Places.{store_of}
use Rattle.lq_evars.proofs.Growing.{store_of-grown}
use Rattle.lq_elab.proofs.ArmLaws.{asked_leads, asked_lacks}
use Rattle.lq_elab.proofs.StateLaws.{state_grown, wanted_grown}
use Rattle.lq_elab.proofs.viewing.asked.Goals as goal

pub returns-then-not-take-clause-goes : goal.returns-then-not-take-clause-goes
returns-then-not-take-clause-goes g c f b h =
    let t = c.if-not-take.ensures.taken in
    let l = c.if-not-take.ensures.left in
    (asked_lacks c.args.work.now.bank.now c.args.site.now c.args.store.now c.args.context.now c.args.frames.now c.args.wanted c.args.term c.view_of-view.result c.view_of-view.ensures f b c.args.work.now.ticks.now.left (omega (arith, t)) h, omega (arith, t, l))

pub node_asked-requires-clause-state : goal.node_asked-requires-clause-state
node_asked-requires-clause-state g c = state_grown c.args.work.now.bank.now c.name_in.new.bank c.in-Ok.ensures.grows c.args.site.now c.args.store.now c.args.context.now c.args.scope.now c.args.frames.now c.requires.state

pub node_asked-requires-clause-wanted : goal.node_asked-requires-clause-wanted
node_asked-requires-clause-wanted g c = (wanted_grown c.args.work.now.bank.now c.name_in.new.bank c.in-Ok.ensures.grows c.args.site.now c.args.store.now c.args.context.now c.args.scope.now c.args.frames.now c.requires.state c.args.wanted c.requires.stands.0 c.requires.stands.1).0

pub node_asked-requires-clause-wanted_stands : goal.node_asked-requires-clause-wanted_stands
node_asked-requires-clause-wanted_stands g c = (wanted_grown c.args.work.now.bank.now c.name_in.new.bank c.in-Ok.ensures.grows c.args.site.now c.args.store.now c.args.context.now c.args.scope.now c.args.frames.now c.requires.state c.args.wanted c.requires.stands.0 c.requires.stands.1).1

pub returns-in-Ok-clause-goes : goal.returns-in-Ok-clause-goes
returns-in-Ok-clause-goes g c f b h =
    c.node_asked.ensures.goes f b (asked_leads c.args.work.now.bank.now c.name_in.new.bank c.in-Ok.ensures.grows c.args.site.now c.args.store.now c.args.context.now c.args.scope.now c.args.frames.now c.requires.state c.args.wanted c.requires.stands.0 c.args.term c.view_of-view.result c.view_of-view.ensures f b c.args.work.now.ticks.now.left c.take.new.self.left (omega arith) h)

pub returns-in-Ok-clause-grown : goal.returns-in-Ok-clause-grown
returns-in-Ok-clause-grown g c = along (λ z. OnOk c.node_asked.result (Grown z (store_of c.node_asked.new.work.bank.now c.node_asked.new.store))) (store_of-grown c.args.work.now.bank.now c.name_in.new.bank c.in-Ok.ensures.grows c.args.store.now c.requires.state.store) c.node_asked.ensures.grown
