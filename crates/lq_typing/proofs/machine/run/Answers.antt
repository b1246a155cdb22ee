use Rattle.std.proofs.Common.{◌∙◌, sym, arith, Ok, Err, Some, None}
use Rattle.std.proofs.Common.{subst as along}
use Rattle.lq_terms.proofs.Growth.{Grows-trans}
use Rattle.lq_env.specs.Environments.{env_of}
use Rattle.lq_env.proofs.Grown.{env_of-grown}
use Rattle.lq_typing.specs.declared.waiting.Turn.{Turn}
use Rattle.lq_typing.specs.Frames.{turn_work}
use Rattle.lq_typing.specs.Kinds.{Comes}
use Rattle.lq_typing.proofs.TurnLaws.{lent_grown}
use Rattle.lq_typing.proofs.RunLaws.{further, last_comes}
use Rattle.lq_typing.proofs.machine.run.Goals as goal

pub turns-preserved : goal.turns-preserved
turns-preserved g c =
    let next = further (turn_work c.args.work.now.bank.now c.args.store.now (env_of c.args.work.now.bank.now c.args.env.now) c.args.context.now c.args.waiting.now (Turn.Ask c.args.term)) c.args.work.now.ticks.now.left c.turns.work.ticks.now.left
    c.turns.work.bank.now c.turned.new.work.bank.now c.args.store.now (env_of c.turns.work.bank.now c.args.env.now) (env_of c.args.work.now.bank.now c.args.env.now) c.turns.context c.turns.waiting c.turns.turn c.turned.new.context c.turned.new.waiting
    (Ok (Some c.in-Ok-Some.later)) c.turned.new.work.ticks.now.left (env_of-grown c.args.work.now.bank.now c.turns.work.bank.now c.turns.invariant.grows c.args.env.now c.requires.lent.env) c.turns.invariant.leads
    (rw c.in-Ok-Some.field-0-is at c.in-Ok-Some.ensures.goes) in record {
      lent = lent_grown c.turns.work.bank.now c.turned.new.work.bank.now c.in-Ok-Some.ensures.grows c.args.env.now c.args.store.now c.turns.invariant.lent;
      is = next.0;
      leads = next.1;
      grows = Grows-trans c.args.work.now.bank.now c.turns.work.bank.now c.turned.new.work.bank.now c.turns.invariant.grows c.in-Ok-Some.ensures.grows;
      same_bank = c.in-Ok-Some.ensures.same_bank ∙ c.turns.invariant.same_bank;
      same_ticks = c.in-Ok-Some.ensures.same_ticks ∙ c.turns.invariant.same_ticks;
      budget = c.in-Ok-Some.ensures.budget ∙ c.turns.invariant.budget;
      counted = omega (arith, c.in-Ok-Some.ensures.counted, c.turns.invariant.counted);
    }

pub returns-in-Ok-None-clause-answer : goal.returns-in-Ok-None-clause-answer
returns-in-Ok-None-clause-answer g c =
    let next = further (turn_work c.args.work.now.bank.now c.args.store.now (env_of c.args.work.now.bank.now c.args.env.now) c.args.context.now c.args.waiting.now (Turn.Ask c.args.term)) c.args.work.now.ticks.now.left c.turns.work.ticks.now.left
    c.turns.work.bank.now c.turned.new.work.bank.now c.args.store.now (env_of c.turns.work.bank.now c.args.env.now) (env_of c.args.work.now.bank.now c.args.env.now) c.turns.context c.turns.waiting c.turns.turn c.turned.new.context c.turned.new.waiting
    (Ok None) c.turned.new.work.ticks.now.left (env_of-grown c.args.work.now.bank.now c.turns.work.bank.now c.turns.invariant.grows c.args.env.now c.requires.lent.env) c.turns.invariant.leads
    (rw c.in-Ok-None.field-0-is at c.in-Ok-None.ensures.goes) in
    let ended = rw c.in-Ok-None.field-0-is at c.in-Ok-None.ensures.ended in
    along (λ z. Comes c.turned.new.work.bank.now (Ok z) (turn_work c.args.work.now.bank.now c.args.store.now (env_of c.args.work.now.bank.now c.args.env.now) c.args.context.now c.args.waiting.now (Turn.Ask c.args.term)) c.args.work.now.ticks.now.left c.turned.new.work.ticks.now.left) (sym c.term_of.ensures)
    (last_comes (turn_work c.args.work.now.bank.now c.args.store.now (env_of c.args.work.now.bank.now c.args.env.now) c.args.context.now c.args.waiting.now (Turn.Ask c.args.term)) c.args.work.now.ticks.now.left c.turned.new.work.ticks.now.left
    c.turned.new.work.bank.now c.args.store.now (env_of c.args.work.now.bank.now c.args.env.now) c.turned.new.context c.turned.new.waiting c.turns.turn ended.0 ended.1 next.0 next.1)

pub returns-in-Err-clause-answer : goal.returns-in-Err-clause-answer
returns-in-Err-clause-answer g c =
    further (turn_work c.args.work.now.bank.now c.args.store.now (env_of c.args.work.now.bank.now c.args.env.now) c.args.context.now c.args.waiting.now (Turn.Ask c.args.term)) c.args.work.now.ticks.now.left c.turns.work.ticks.now.left
    c.turns.work.bank.now c.turned.new.work.bank.now c.args.store.now (env_of c.turns.work.bank.now c.args.env.now) (env_of c.args.work.now.bank.now c.args.env.now) c.turns.context c.turns.waiting c.turns.turn c.turned.new.context c.turned.new.waiting
    (Err c.in-Err.fault) c.turned.new.work.ticks.now.left (env_of-grown c.args.work.now.bank.now c.turns.work.bank.now c.turns.invariant.grows c.args.env.now c.requires.lent.env) c.turns.invariant.leads c.in-Err.ensures.goes
