use Rattle.std.proofs.Common.{◌∙◌, ◌<◌, ◌+◌, ◌*◌, sym, arith}
use Rattle.std.proofs.Common.{subst as along}
use Rattle.lq_evars.specs.Places.{store_of}
use Rattle.lq_solving.proofs.ElabKept.{grown_now}
use Rattle.lq_typing.specs.Refusals.{Refuses}
use Rattle.lq_elab.specs.declared.turns.Turn.{Turn}
use Rattle.lq_elab.specs.Continuing.{IsNext}
use Rattle.lq_elab.specs.Frames.{weights}
use Rattle.lq_elab.specs.Running.{IsFound}
use Rattle.lq_elab.specs.States.{IsState, TurnStands, turn_work, due}
use Rattle.lq_elab.proofs.GoingLaws.{leads_itself}
use Rattle.lq_elab.proofs.RunLaws.{asked_continues, next_more, nothing_next, restores_more, falls_by}
use Rattle.lq_elab.proofs.machine.turned.Goals as goal

pub asked-requires : goal.asked-requires
asked-requires g c = record {
  state = c.requires.state;
  stands = along (TurnStands c.args.work.now.bank.now c.args.store.now c.args.context.now) c.in-Ask.is c.requires.stands;
}

pub resumed-requires : goal.resumed-requires
resumed-requires g c = record {
  state = along (IsState c.args.work.now.bank.now c.args.site.now c.args.store.now c.args.context.now c.args.scope.now) c.in-Some.ensures c.requires.state;
  found = along (TurnStands c.args.work.now.bank.now c.args.store.now c.args.context.now) c.in-Found.is c.requires.stands;
}

pub returns-in-Ok-clause-goes : goal.returns-in-Ok-clause-goes
returns-in-Ok-clause-goes g c =
    along (λ z. IsNext c.asked.new.work.bank.now c.args.site.now (store_of c.args.work.now.bank.now c.args.store.now) c.asked.new.store c.asked.new.context c.asked.new.scope c.asked.new.frames c.in-Ok.next
    (turn_work c.args.work.now.bank.now c.args.site.now c.args.store.now c.args.context.now c.args.frames.now z) c.args.work.now.ticks.now.left c.asked.new.work.ticks.now.left (weights c.args.frames.now + due z + 4 * c.args.work.now.ticks.now.left)) (sym c.in-Ask.is)
    (asked_continues c.asked.new.work.bank.now c.args.site.now (store_of c.args.work.now.bank.now c.args.store.now) c.asked.new.store c.asked.new.context c.asked.new.scope c.asked.new.frames c.in-Ok.next
    (turn_work c.args.work.now.bank.now c.args.site.now c.args.store.now c.args.context.now c.args.frames.now (Turn.Ask c.in-Ask.term c.in-Ask.wanted)) c.args.work.now.ticks.now.left c.asked.new.work.ticks.now.left _
    c.in-Ok.ensures.state c.in-Ok.ensures.stands c.in-Ok.ensures.grown (omega (arith, c.in-Ok.ensures.falls))
    (c.in-Ok.ensures.goes (turn_work c.args.work.now.bank.now c.args.site.now c.args.store.now c.args.context.now c.args.frames.now (Turn.Ask c.in-Ask.term c.in-Ask.wanted)) c.args.work.now.ticks.now.left
    (leads_itself (turn_work c.args.work.now.bank.now c.args.site.now c.args.store.now c.args.context.now c.args.frames.now (Turn.Ask c.in-Ask.term c.in-Ask.wanted)) c.args.work.now.ticks.now.left)))

pub returns-in-Ok-clause-falls : goal.returns-in-Ok-clause-falls
returns-in-Ok-clause-falls g c = falls_by (Turn.Ask c.in-Ask.term c.in-Ask.wanted) c.args.turn _ _ _ (sym c.in-Ask.is) (omega (arith, c.in-Ok.ensures.falls))

pub returns-in-Err-clause-goes : goal.returns-in-Err-clause-goes
returns-in-Err-clause-goes g c =
    along (λ z. Refuses c.asked.new.work.bank.now c.in-Err.fault (turn_work c.args.work.now.bank.now c.args.site.now c.args.store.now c.args.context.now c.args.frames.now z) c.args.work.now.ticks.now.left c.asked.new.work.ticks.now.left) (sym c.in-Ask.is)
    (c.in-Err.ensures.goes (turn_work c.args.work.now.bank.now c.args.site.now c.args.store.now c.args.context.now c.args.frames.now (Turn.Ask c.in-Ask.term c.in-Ask.wanted)) c.args.work.now.ticks.now.left
    (leads_itself (turn_work c.args.work.now.bank.now c.args.site.now c.args.store.now c.args.context.now c.args.frames.now (Turn.Ask c.in-Ask.term c.in-Ask.wanted)) c.args.work.now.ticks.now.left))

pub returns-in-Ok-resumed-clause-goes : goal.returns-in-Ok-resumed-clause-goes
returns-in-Ok-resumed-clause-goes g c =
    along (λ z. IsNext c.resumed.new.work.bank.now c.args.site.now (store_of c.args.work.now.bank.now c.args.store.now) c.resumed.new.store c.resumed.new.context c.resumed.new.scope c.resumed.new.frames c.in-Ok-resumed.next
    (turn_work c.args.work.now.bank.now c.args.site.now c.args.store.now c.args.context.now c.args.frames.now z) c.args.work.now.ticks.now.left c.resumed.new.work.ticks.now.left (weights c.args.frames.now + due z + 4 * c.args.work.now.ticks.now.left)) (sym c.in-Found.is)
    (along (λ z. IsNext c.resumed.new.work.bank.now c.args.site.now (store_of c.args.work.now.bank.now c.args.store.now) c.resumed.new.store c.resumed.new.context c.resumed.new.scope c.resumed.new.frames c.in-Ok-resumed.next
    (turn_work c.args.work.now.bank.now c.args.site.now c.args.store.now c.args.context.now z (Turn.Found c.in-Found.found)) c.args.work.now.ticks.now.left c.resumed.new.work.ticks.now.left (weights z + 1 + 4 * c.args.work.now.ticks.now.left)) (sym c.in-Some.ensures)
    (next_more c.resumed.new.work.bank.now c.args.site.now (store_of c.args.work.now.bank.now c.args.store.now) c.resumed.new.store c.resumed.new.context c.resumed.new.scope c.resumed.new.frames c.in-Ok-resumed.next _ c.args.work.now.ticks.now.left
    c.resumed.new.work.ticks.now.left _ _ (omega arith) c.in-Ok-resumed.ensures.goes))

pub returns-in-Ok-resumed-clause-falls : goal.returns-in-Ok-resumed-clause-falls
returns-in-Ok-resumed-clause-falls g c =
    falls_by (Turn.Found c.in-Found.found) c.args.turn _ _ _ (sym c.in-Found.is) (along (λ z. weights c.resumed.new.frames + due c.in-Ok-resumed.next + 4 * c.resumed.new.work.ticks.now.left < weights z + 1 + 4 * c.args.work.now.ticks.now.left) (sym c.in-Some.ensures) (omega (arith, c.in-Ok-resumed.ensures.goes.falls)))

pub returns-in-Ok-resumed-clause-since : goal.returns-in-Ok-resumed-clause-since
returns-in-Ok-resumed-clause-since g c = λ before h. restores_more before c.args.saved.now c.args.store.now c.resumed.new.store c.in-Ok-resumed.ensures.more h

pub returns-in-Err-resumed-clause-since : goal.returns-in-Err-resumed-clause-since
returns-in-Err-resumed-clause-since g c = λ before h. restores_more before c.args.saved.now c.args.store.now c.resumed.new.store c.in-Err-resumed.ensures.more h

pub returns-in-Err-resumed-clause-goes : goal.returns-in-Err-resumed-clause-goes
returns-in-Err-resumed-clause-goes g c =
    along (λ z. Refuses c.resumed.new.work.bank.now c.in-Err-resumed.fault (turn_work c.args.work.now.bank.now c.args.site.now c.args.store.now c.args.context.now c.args.frames.now z) c.args.work.now.ticks.now.left c.resumed.new.work.ticks.now.left) (sym c.in-Found.is)
    (along (λ z. Refuses c.resumed.new.work.bank.now c.in-Err-resumed.fault (turn_work c.args.work.now.bank.now c.args.site.now c.args.store.now c.args.context.now z (Turn.Found c.in-Found.found)) c.args.work.now.ticks.now.left c.resumed.new.work.ticks.now.left) (sym c.in-Some.ensures)
    c.in-Err-resumed.ensures.goes)

pub returns-in-None-clause-goes : goal.returns-in-None-clause-goes
returns-in-None-clause-goes g c = (
  c.in-None.ensures.1,
  along IsFound (sym c.in-Found.is) tt,
  along (λ z. IsNext c.args.work.now.bank.now c.args.site.now (store_of c.args.work.now.bank.now c.args.store.now) c.args.store.now c.args.context.now c.args.scope.now z c.args.turn
      (turn_work c.args.work.now.bank.now c.args.site.now c.args.store.now c.args.context.now c.args.frames.now c.args.turn) c.args.work.now.ticks.now.left c.args.work.now.ticks.now.left (weights c.args.frames.now + due c.args.turn + 4 * c.args.work.now.ticks.now.left))
      (c.in-None.ensures.0 ∙ sym c.in-None.ensures.1)
      (nothing_next c.args.work.now.bank.now c.args.site.now c.args.store.now c.args.context.now c.args.scope.now c.args.frames.now c.args.turn c.args.work.now.ticks.now.left c.requires.state c.requires.stands (grown_now (store_of c.args.work.now.bank.now c.args.store.now) c.requires.state.kept)),
)
