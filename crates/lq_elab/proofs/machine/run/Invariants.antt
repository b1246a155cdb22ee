use Rattle.std.proofs.Common.{◌≡◌, ◌+◌, ◌*◌}
use Rattle.lq_terms.specs.Terms.{Grows}
use Rattle.lq_solving.proofs.ElabKept.{Grown}
use Rattle.lq_evars.specs.Places.{Places, store_of}
use Rattle.lq_elab.specs.declared.turns.Turn.{Turn}
use Rattle.lq_elab.specs.Frames.{weights}
use Rattle.lq_elab.specs.Making.{Restores}
use Rattle.lq_elab.specs.States.{IsState, TurnStands, turn_work, due}
use Rattle.lq_elab.specs.Waiting.{Leads}
use Rattle.lq_elab.proofs.machine.run.Given as goal

abbrev pub invariant-turns : goal.invariant-turns
invariant-turns g l = record {
  state : IsState l.work.bank.now l.site l.store l.context l.scope l.frames;
  stands : TurnStands l.work.bank.now l.store l.context l.turn;
  grown : Grown (store_of l.fn.work.bank.now l.fn.store) (store_of l.work.bank.now l.store);
  leads : Leads (turn_work l.fn.work.bank.now l.site l.fn.store l.fn.context l.fn.frames (Turn.Ask l.fn.term l.fn.wanted)) (turn_work l.work.bank.now l.site l.store l.context l.frames l.turn) l.fn.work.ticks.now.left l.work.ticks.now.left;
  since : (before : Places) → Restores before l.fn.saved l.fn.store → Restores before l.saved l.store;
  grows : Grows l.fn.work.bank.now l.work.bank.now;
  same_bank : l.work.bank.ghost_name ≡ l.fn.work.bank.ghost_name;
  same_ticks : l.work.ticks.ghost_name ≡ l.fn.work.ticks.ghost_name;
  budget : l.work.ticks.now.left + l.work.ticks.now.spent ≡ l.fn.work.ticks.now.left + l.fn.work.ticks.now.spent;
  counted : l.steps + l.fn.work.ticks.now.spent ≡ l.fn.steps + l.work.ticks.now.spent;
}

abbrev pub decreases-turns : goal.decreases-turns
decreases-turns g l = weights l.frames + due l.turn + 4 * l.work.ticks.now.left
