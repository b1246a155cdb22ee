use Rattle.std.proofs.Common.{◌∙◌, ◌+◌, ◌*◌, sym, arith}
use Rattle.std.proofs.Common.{subst as along}
use Rattle.lq_terms.proofs.Growth.{Grows-trans}
use Rattle.lq_evars.specs.Places.{store_of}
use Rattle.lq_elab.specs.declared.turns.Turn.{Turn}
use Rattle.lq_elab.specs.Continuing.{IsNext}
use Rattle.lq_elab.specs.Frames.{weights}
use Rattle.lq_elab.specs.States.{turn_work, due}
use Rattle.lq_elab.proofs.RunLaws.{goes_further, refuses_further, last_ends, turn_found, found_none}
use Rattle.lq_elab.proofs.machine.run.Goals as goal

pub turns-preserved : goal.turns-preserved
turns-preserved g c =
    let next = goes_further (turn_work c.args.work.now.bank.now c.args.site.now c.args.store.now c.args.context.now c.args.frames.now (Turn.Ask c.args.term c.args.wanted)) c.args.work.now.ticks.now.left c.turns.work.ticks.now.left
    (store_of c.args.work.now.bank.now c.args.store.now) c.turns.work.bank.now c.turned.new.work.bank.now c.in-Ok-Some.ensures.grows c.args.site.now c.turns.store c.turns.context c.turns.frames c.turns.turn c.turns.invariant.state.store c.turns.invariant.grown c.turns.invariant.leads
    c.turned.new.store c.turned.new.context c.turned.new.scope c.turned.new.frames c.in-Ok-Some.next c.turned.new.work.ticks.now.left (weights c.turns.frames + due c.turns.turn + 4 * c.turns.work.ticks.now.left) (rw c.in-Ok-Some.field-0-is at c.in-Ok-Some.ensures.goes) in record {
      state = next.state;
      stands = next.stands;
      grown = next.grown;
      leads = next.leads;
      since = λ before h. c.in-Ok-Some.ensures.since before (c.turns.invariant.since before h);
      grows = Grows-trans c.args.work.now.bank.now c.turns.work.bank.now c.turned.new.work.bank.now c.turns.invariant.grows c.in-Ok-Some.ensures.grows;
      same_bank = c.in-Ok-Some.ensures.same_bank ∙ c.turns.invariant.same_bank;
      same_ticks = c.in-Ok-Some.ensures.same_ticks ∙ c.turns.invariant.same_ticks;
      budget = c.in-Ok-Some.ensures.budget ∙ c.turns.invariant.budget;
      counted = omega (arith, c.in-Ok-Some.ensures.counted, c.turns.invariant.counted);
    }

pub returns-in-Err-clause-ends : goal.returns-in-Err-clause-ends
returns-in-Err-clause-ends g c =
    refuses_further (turn_work c.args.work.now.bank.now c.args.site.now c.args.store.now c.args.context.now c.args.frames.now (Turn.Ask c.args.term c.args.wanted)) c.args.work.now.ticks.now.left c.turns.work.ticks.now.left
    (store_of c.args.work.now.bank.now c.args.store.now) c.turns.work.bank.now c.turned.new.work.bank.now c.in-Err.ensures.grows c.args.site.now c.turns.store c.turns.context c.turns.frames c.turns.turn c.turns.invariant.state.store c.turns.invariant.grown c.turns.invariant.leads
    c.in-Err.fault c.turned.new.work.ticks.now.left c.in-Err.ensures.goes

pub returns-in-Some-clause-ends : goal.returns-in-Some-clause-ends
returns-in-Some-clause-ends g c =
    let goes = rw c.in-Ok-None.field-0-is at c.in-Ok-None.ensures.goes in
    let next = goes_further (turn_work c.args.work.now.bank.now c.args.site.now c.args.store.now c.args.context.now c.args.frames.now (Turn.Ask c.args.term c.args.wanted)) c.args.work.now.ticks.now.left c.turns.work.ticks.now.left
    (store_of c.args.work.now.bank.now c.args.store.now) c.turns.work.bank.now c.turned.new.work.bank.now c.in-Ok-None.ensures.grows c.args.site.now c.turns.store c.turns.context c.turns.frames c.turns.turn c.turns.invariant.state.store c.turns.invariant.grown c.turns.invariant.leads
    c.turned.new.store c.turned.new.context c.turned.new.scope c.turned.new.frames c.turns.turn c.turned.new.work.ticks.now.left (weights c.turns.frames + due c.turns.turn + 4 * c.turns.work.ticks.now.left) goes.2 in
    last_ends c.turned.new.work.bank.now c.args.site.now (store_of c.args.work.now.bank.now c.args.store.now) c.turned.new.store c.turned.new.context c.turned.new.scope c.turned.new.frames c.in-Some.found
    (turn_work c.args.work.now.bank.now c.args.site.now c.args.store.now c.args.context.now c.args.frames.now (Turn.Ask c.args.term c.args.wanted)) c.args.work.now.ticks.now.left c.turned.new.work.ticks.now.left
    (weights c.turns.frames + due c.turns.turn + 4 * c.turns.work.ticks.now.left) goes.0
    (along (λ z. IsNext c.turned.new.work.bank.now c.args.site.now (store_of c.args.work.now.bank.now c.args.store.now) c.turned.new.store c.turned.new.context c.turned.new.scope c.turned.new.frames z
    (turn_work c.args.work.now.bank.now c.args.site.now c.args.store.now c.args.context.now c.args.frames.now (Turn.Ask c.args.term c.args.wanted)) c.args.work.now.ticks.now.left c.turned.new.work.ticks.now.left
    (weights c.turns.frames + due c.turns.turn + 4 * c.turns.work.ticks.now.left)) (turn_found c.turns.turn c.in-Some.found (sym c.found_in.ensures ∙ c.in-Some.is)) next)

pub unreachable-requires : goal.unreachable-requires
unreachable-requires g c = let goes = rw c.in-Ok-None.field-0-is at c.in-Ok-None.ensures.goes in found_none c.turns.turn goes.1 (sym c.found_in.ensures ∙ c.in-None.is)
