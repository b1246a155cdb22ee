use Rattle.std.proofs.Common.{rules, ◌≤◌, ℕ, length, Ok, Err, refl, subst, arith}
use Rattle.lq_runs.specs.Runs.{Run}
use Rattle.lq_stream.specs.declared.moves.StepFault.{StepFault}
use Rattle.lq_stream.specs.declared.turns.Turn.TheVariants.{GoesOn, Answered}
use Rattle.lq_stream.specs.Holding.{HasDoing}
use Rattle.lq_stream.specs.Places.{Held}
use Rattle.lq_stream.specs.Turning.{Works, LeadsTo, TurnHas}
use Rattle.lq_stream.proofs.Loops.{starts_leading, now_works, on_leads}
use Rattle.lq_stream.proofs.running.to_answer.Goals as goal

pub ticks-init : goal.ticks-init
ticks-init g c =
    record {
      later = g.met.M.Machine.later_refl c.args.machine.now;
      held = c.requires.held;
      doing = c.requires.start;
      place = omega arith;
      leads = starts_leading g.M.Machine.rank g.M.Machine.rest_rank (g.M.Machine.does c.args.machine.now) (record { told = g.M.Machine.told c.args.machine.now; state = g.M.Machine.state c.args.machine.now; messages = g.M.Machine.messages c.args.machine.now; left = c.args.ticks.now.left; links = c.args.stacks.now.links.items; choices = c.args.stacks.now.choices.items }) c.args.start 0;
      stop = g.met.P.Stop.later_refl c.args.stop.now;
      running = c.requires.running;
      left = refl;
      counted = refl;
    }

pub to_tick-requires-clause-works : goal.to_tick-requires-clause-works
to_tick-requires-clause-works g c =
    now_works g.M.Machine.rank g.M.Machine.rest_rank (g.M.Machine.does c.args.machine.now) (record { told = g.M.Machine.told c.args.machine.now; state = g.M.Machine.state c.args.machine.now; messages = g.M.Machine.messages c.args.machine.now; left = c.args.ticks.now.left; links = c.args.stacks.now.links.items; choices = c.args.stacks.now.choices.items }) c.args.start 0 (g.M.Machine.does c.ticks.machine) (g.met.M.Machine.keeps_does c.args.machine.now c.ticks.machine c.ticks.invariant.later) (record { told = g.M.Machine.told c.ticks.machine; state = g.M.Machine.state c.ticks.machine; messages = g.M.Machine.messages c.ticks.machine; left = c.ticks.ticks.left; links = c.ticks.stacks.links.items; choices = c.ticks.stacks.choices.items }) c.ticks.doing c.ticks.place c.ticks.invariant.leads c.requires.works

pub returns-in-Ok-Answered-clause-later : goal.returns-in-Ok-Answered-clause-later
returns-in-Ok-Answered-clause-later g c =
    g.met.M.Machine.later_trans c.args.machine.now c.ticks.machine c.to_tick.new.machine c.ticks.invariant.later c.to_tick.ensures.later

pub returns-in-Ok-Answered-clause-ends : goal.returns-in-Ok-Answered-clause-ends
returns-in-Ok-Answered-clause-ends g c =
    on_leads g.M.Machine.rank g.M.Machine.rest_rank (g.M.Machine.does c.args.machine.now) (record { told = g.M.Machine.told c.args.machine.now; state = g.M.Machine.state c.args.machine.now; messages = g.M.Machine.messages c.args.machine.now; left = c.args.ticks.now.left; links = c.args.stacks.now.links.items; choices = c.args.stacks.now.choices.items }) c.args.start 0 (g.M.Machine.does c.ticks.machine) (g.met.M.Machine.keeps_does c.args.machine.now c.ticks.machine c.ticks.invariant.later) (record { told = g.M.Machine.told c.ticks.machine; state = g.M.Machine.state c.ticks.machine; messages = g.M.Machine.messages c.ticks.machine; left = c.ticks.ticks.left; links = c.ticks.stacks.links.items; choices = c.ticks.stacks.choices.items }) c.ticks.doing c.ticks.place c.ticks.invariant.leads (record { told = g.M.Machine.told c.to_tick.new.machine; state = g.M.Machine.state c.to_tick.new.machine; messages = g.M.Machine.messages c.to_tick.new.machine; left = c.to_tick.new.ticks.left; links = c.to_tick.new.stacks.links.items; choices = c.to_tick.new.stacks.choices.items }) (Ok (Answered c.in-Ok-Answered.answer)) (subst (λ z. (f : ℕ → Run g.M.Machine.Message g.M.Machine.CauseTree g.M.Machine.State g.M.Machine.ValueTree) → Works g.M.Machine.rank g.M.Machine.rest_rank (g.M.Machine.does c.ticks.machine) (record { told = g.M.Machine.told c.ticks.machine; state = g.M.Machine.state c.ticks.machine; messages = g.M.Machine.messages c.ticks.machine; left = c.ticks.ticks.left; links = c.ticks.stacks.links.items; choices = c.ticks.stacks.choices.items }) c.ticks.doing c.ticks.place f → LeadsTo g.M.Machine.rank g.M.Machine.rest_rank (g.M.Machine.does c.ticks.machine) (record { told = g.M.Machine.told c.ticks.machine; state = g.M.Machine.state c.ticks.machine; messages = g.M.Machine.messages c.ticks.machine; left = c.ticks.ticks.left; links = c.ticks.stacks.links.items; choices = c.ticks.stacks.choices.items }) (record { told = g.M.Machine.told c.to_tick.new.machine; state = g.M.Machine.state c.to_tick.new.machine; messages = g.M.Machine.messages c.to_tick.new.machine; left = c.to_tick.new.ticks.left; links = c.to_tick.new.stacks.links.items; choices = c.to_tick.new.stacks.choices.items }) f (Ok z)) c.in-Ok-Answered.field-0-is c.in-Ok-Answered.ensures.leads)

pub returns-in-Err-StepsOut-clause-ends : goal.returns-in-Err-StepsOut-clause-ends
returns-in-Err-StepsOut-clause-ends g c =
    on_leads g.M.Machine.rank g.M.Machine.rest_rank (g.M.Machine.does c.args.machine.now) (record { told = g.M.Machine.told c.args.machine.now; state = g.M.Machine.state c.args.machine.now; messages = g.M.Machine.messages c.args.machine.now; left = c.args.ticks.now.left; links = c.args.stacks.now.links.items; choices = c.args.stacks.now.choices.items }) c.args.start 0 (g.M.Machine.does c.ticks.machine) (g.met.M.Machine.keeps_does c.args.machine.now c.ticks.machine c.ticks.invariant.later) (record { told = g.M.Machine.told c.ticks.machine; state = g.M.Machine.state c.ticks.machine; messages = g.M.Machine.messages c.ticks.machine; left = c.ticks.ticks.left; links = c.ticks.stacks.links.items; choices = c.ticks.stacks.choices.items }) c.ticks.doing c.ticks.place c.ticks.invariant.leads (record { told = g.M.Machine.told c.to_tick.new.machine; state = g.M.Machine.state c.to_tick.new.machine; messages = g.M.Machine.messages c.to_tick.new.machine; left = c.to_tick.new.ticks.left; links = c.to_tick.new.stacks.links.items; choices = c.to_tick.new.stacks.choices.items }) (Err StepFault.StepsOut) (subst (λ z. (f : ℕ → Run g.M.Machine.Message g.M.Machine.CauseTree g.M.Machine.State g.M.Machine.ValueTree) → Works g.M.Machine.rank g.M.Machine.rest_rank (g.M.Machine.does c.ticks.machine) (record { told = g.M.Machine.told c.ticks.machine; state = g.M.Machine.state c.ticks.machine; messages = g.M.Machine.messages c.ticks.machine; left = c.ticks.ticks.left; links = c.ticks.stacks.links.items; choices = c.ticks.stacks.choices.items }) c.ticks.doing c.ticks.place f → LeadsTo g.M.Machine.rank g.M.Machine.rest_rank (g.M.Machine.does c.ticks.machine) (record { told = g.M.Machine.told c.ticks.machine; state = g.M.Machine.state c.ticks.machine; messages = g.M.Machine.messages c.ticks.machine; left = c.ticks.ticks.left; links = c.ticks.stacks.links.items; choices = c.ticks.stacks.choices.items }) (record { told = g.M.Machine.told c.to_tick.new.machine; state = g.M.Machine.state c.to_tick.new.machine; messages = g.M.Machine.messages c.to_tick.new.machine; left = c.to_tick.new.ticks.left; links = c.to_tick.new.stacks.links.items; choices = c.to_tick.new.stacks.choices.items }) f (Err z)) c.in-Err-StepsOut.field-0-is c.in-Err-StepsOut.ensures.leads)

pub ticks-preserved : goal.ticks-preserved
ticks-preserved g c =
    let has : Held (g.M.Machine.known c.to_tick.new.machine) c.to_tick.new.stacks.links.items c.to_tick.new.stacks.choices.items c.to_tick.new.stacks.tops.items × (HasDoing (g.M.Machine.known c.to_tick.new.machine) c.in-Ok-GoesOn.next × (c.in-Ok-GoesOn.below ≤ length c.to_tick.new.stacks.links.items)) =
    subst (λ z. Held (g.M.Machine.known c.to_tick.new.machine) c.to_tick.new.stacks.links.items c.to_tick.new.stacks.choices.items c.to_tick.new.stacks.tops.items × TurnHas (g.M.Machine.known c.to_tick.new.machine) (length c.to_tick.new.stacks.links.items) z) c.in-Ok-GoesOn.field-0-is c.in-Ok-GoesOn.ensures.held in
    record {
      later = g.met.M.Machine.later_trans c.args.machine.now c.ticks.machine c.to_tick.new.machine c.ticks.invariant.later c.to_tick.ensures.later;
      held = has.0;
      doing = has.1.0;
      place = has.1.1;
      leads = on_leads g.M.Machine.rank g.M.Machine.rest_rank (g.M.Machine.does c.args.machine.now) (record { told = g.M.Machine.told c.args.machine.now; state = g.M.Machine.state c.args.machine.now; messages = g.M.Machine.messages c.args.machine.now; left = c.args.ticks.now.left; links = c.args.stacks.now.links.items; choices = c.args.stacks.now.choices.items }) c.args.start 0 (g.M.Machine.does c.ticks.machine) (g.met.M.Machine.keeps_does c.args.machine.now c.ticks.machine c.ticks.invariant.later) (record { told = g.M.Machine.told c.ticks.machine; state = g.M.Machine.state c.ticks.machine; messages = g.M.Machine.messages c.ticks.machine; left = c.ticks.ticks.left; links = c.ticks.stacks.links.items; choices = c.ticks.stacks.choices.items }) c.ticks.doing c.ticks.place c.ticks.invariant.leads (record { told = g.M.Machine.told c.to_tick.new.machine; state = g.M.Machine.state c.to_tick.new.machine; messages = g.M.Machine.messages c.to_tick.new.machine; left = c.to_tick.new.ticks.left; links = c.to_tick.new.stacks.links.items; choices = c.to_tick.new.stacks.choices.items }) (Ok (GoesOn c.in-Ok-GoesOn.next c.in-Ok-GoesOn.below)) (subst (λ z. (f : ℕ → Run g.M.Machine.Message g.M.Machine.CauseTree g.M.Machine.State g.M.Machine.ValueTree) → Works g.M.Machine.rank g.M.Machine.rest_rank (g.M.Machine.does c.ticks.machine) (record { told = g.M.Machine.told c.ticks.machine; state = g.M.Machine.state c.ticks.machine; messages = g.M.Machine.messages c.ticks.machine; left = c.ticks.ticks.left; links = c.ticks.stacks.links.items; choices = c.ticks.stacks.choices.items }) c.ticks.doing c.ticks.place f → LeadsTo g.M.Machine.rank g.M.Machine.rest_rank (g.M.Machine.does c.ticks.machine) (record { told = g.M.Machine.told c.ticks.machine; state = g.M.Machine.state c.ticks.machine; messages = g.M.Machine.messages c.ticks.machine; left = c.ticks.ticks.left; links = c.ticks.stacks.links.items; choices = c.ticks.stacks.choices.items }) (record { told = g.M.Machine.told c.to_tick.new.machine; state = g.M.Machine.state c.to_tick.new.machine; messages = g.M.Machine.messages c.to_tick.new.machine; left = c.to_tick.new.ticks.left; links = c.to_tick.new.stacks.links.items; choices = c.to_tick.new.stacks.choices.items }) f (Ok z)) c.in-Ok-GoesOn.field-0-is c.in-Ok-GoesOn.ensures.leads);
      stop = g.met.P.Stop.later_trans c.args.stop.now c.ticks.stop c.ask.new.self c.ticks.invariant.stop c.ask.ensures.later;
      running = search (rules, c.ask.ensures.not, c.if-ask.false, c.ticks.invariant.running);
      left = omega arith;
      counted = omega arith;
    }
