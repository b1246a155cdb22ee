use Rattle.std.proofs.Common.{◌≤◌, length, Ok, Err, refl, ◌∙◌, subst, sym, arith}
use Rattle.std.proofs.lemmas.Result.{err_from_is_err_and}
use Rattle.lq_stream.specs.declared.turns.Turn.TheVariants.{GoesOn, Answered}
use Rattle.lq_stream.specs.Holding.{HasDoing}
use Rattle.lq_stream.specs.Places.{Held}
use Rattle.lq_stream.specs.Turning.{Turns, TurnHas}
use Rattle.lq_stream.proofs.Loops.{starts_leading, now_works, turn_leads, turn_falls, exits}
use Rattle.lq_stream.proofs.running.to_tick.Goals as goal

pub turns-init : goal.turns-init
turns-init g c =
    record {
      later = g.met.M.Machine.later_refl c.args.machine.now;
      held = c.requires.held;
      doing = c.requires.start;
      place = c.requires.at;
      leads = starts_leading g.M.Machine.rank g.M.Machine.rest_rank (g.M.Machine.does c.args.machine.now) (record { told = g.M.Machine.told c.args.machine.now; state = g.M.Machine.state c.args.machine.now; messages = g.M.Machine.messages c.args.machine.now; left = c.args.ticks.now.left; links = c.args.stacks.now.links.items; choices = c.args.stacks.now.choices.items }) c.args.start c.args.at;
      unspent = refl;
      whole = refl;
      left = refl;
      counted = refl;
    }

pub turn-requires-clause-works : goal.turn-requires-clause-works
turn-requires-clause-works g c =
    now_works g.M.Machine.rank g.M.Machine.rest_rank (g.M.Machine.does c.args.machine.now) (record { told = g.M.Machine.told c.args.machine.now; state = g.M.Machine.state c.args.machine.now; messages = g.M.Machine.messages c.args.machine.now; left = c.args.ticks.now.left; links = c.args.stacks.now.links.items; choices = c.args.stacks.now.choices.items }) c.args.start c.args.at (g.M.Machine.does c.turns.machine) (g.met.M.Machine.keeps_does c.args.machine.now c.turns.machine c.turns.invariant.later) (record { told = g.M.Machine.told c.turns.machine; state = g.M.Machine.state c.turns.machine; messages = g.M.Machine.messages c.turns.machine; left = c.turns.ticks.left; links = c.turns.stacks.links.items; choices = c.turns.stacks.choices.items }) c.turns.doing c.turns.place c.turns.invariant.leads c.requires.works

pub returns-in_err-answer-clause-leads : goal.returns-in_err-answer-clause-leads
returns-in_err-answer-clause-leads g c =
    λ f w. exits g.M.Machine.rank g.M.Machine.rest_rank (g.M.Machine.does c.args.machine.now) (record { told = g.M.Machine.told c.args.machine.now; state = g.M.Machine.state c.args.machine.now; messages = g.M.Machine.messages c.args.machine.now; left = c.args.ticks.now.left; links = c.args.stacks.now.links.items; choices = c.args.stacks.now.choices.items }) (record { told = g.M.Machine.told c.turn.new.machine; state = g.M.Machine.state c.turn.new.machine; messages = g.M.Machine.messages c.turn.new.machine; left = c.turn.new.ticks.left; links = c.turn.new.stacks.links.items; choices = c.turn.new.stacks.choices.items }) f c.from_residual.result c.in_err-answer.field-0.0 (err_from_is_err_and c.from_residual.result c.from_residual.ensures.1)
    (turn_leads g.M.Machine.rank g.M.Machine.rest_rank (g.M.Machine.does c.args.machine.now) (record { told = g.M.Machine.told c.args.machine.now; state = g.M.Machine.state c.args.machine.now; messages = g.M.Machine.messages c.args.machine.now; left = c.args.ticks.now.left; links = c.args.stacks.now.links.items; choices = c.args.stacks.now.choices.items }) c.args.start c.args.at (g.M.Machine.does c.turns.machine) (g.met.M.Machine.keeps_does c.args.machine.now c.turns.machine c.turns.invariant.later) (record { told = g.M.Machine.told c.turns.machine; state = g.M.Machine.state c.turns.machine; messages = g.M.Machine.messages c.turns.machine; left = c.turns.ticks.left; links = c.turns.stacks.links.items; choices = c.turns.stacks.choices.items }) c.turns.doing c.turns.place c.turns.invariant.leads (record { told = g.M.Machine.told c.turn.new.machine; state = g.M.Machine.state c.turn.new.machine; messages = g.M.Machine.messages c.turn.new.machine; left = c.turn.new.ticks.left; links = c.turn.new.stacks.links.items; choices = c.turn.new.stacks.choices.items }) (Err c.in_err-answer.field-0.0) c.in_err-answer.ensures.turns f w)

pub returns-in-Answered-clause-leads : goal.returns-in-Answered-clause-leads
returns-in-Answered-clause-leads g c =
    turn_leads g.M.Machine.rank g.M.Machine.rest_rank (g.M.Machine.does c.args.machine.now) (record { told = g.M.Machine.told c.args.machine.now; state = g.M.Machine.state c.args.machine.now; messages = g.M.Machine.messages c.args.machine.now; left = c.args.ticks.now.left; links = c.args.stacks.now.links.items; choices = c.args.stacks.now.choices.items }) c.args.start c.args.at (g.M.Machine.does c.turns.machine) (g.met.M.Machine.keeps_does c.args.machine.now c.turns.machine c.turns.invariant.later) (record { told = g.M.Machine.told c.turns.machine; state = g.M.Machine.state c.turns.machine; messages = g.M.Machine.messages c.turns.machine; left = c.turns.ticks.left; links = c.turns.stacks.links.items; choices = c.turns.stacks.choices.items }) c.turns.doing c.turns.place c.turns.invariant.leads (record { told = g.M.Machine.told c.turn.new.machine; state = g.M.Machine.state c.turn.new.machine; messages = g.M.Machine.messages c.turn.new.machine; left = c.turn.new.ticks.left; links = c.turn.new.stacks.links.items; choices = c.turn.new.stacks.choices.items }) (Ok (Answered c.in-Answered.answer)) (subst (λ z. Turns g.M.Machine.rank g.M.Machine.rest_rank (g.M.Machine.does c.turns.machine) (record { told = g.M.Machine.told c.turns.machine; state = g.M.Machine.state c.turns.machine; messages = g.M.Machine.messages c.turns.machine; left = c.turns.ticks.left; links = c.turns.stacks.links.items; choices = c.turns.stacks.choices.items }) c.turns.doing c.turns.place (record { told = g.M.Machine.told c.turn.new.machine; state = g.M.Machine.state c.turn.new.machine; messages = g.M.Machine.messages c.turn.new.machine; left = c.turn.new.ticks.left; links = c.turn.new.stacks.links.items; choices = c.turn.new.stacks.choices.items }) (Ok z)) c.in-Answered.is c.in_ok-answer.ensures.turns)

pub returns-then-ticks-whole-clause-later : goal.returns-then-ticks-whole-clause-later
returns-then-ticks-whole-clause-later g c =
    g.met.M.Machine.later_trans c.args.machine.now c.turns.machine c.turn.new.machine c.turns.invariant.later c.turn.ensures.later

pub returns-then-ticks-whole-clause-leads : goal.returns-then-ticks-whole-clause-leads
returns-then-ticks-whole-clause-leads g c =
    turn_leads g.M.Machine.rank g.M.Machine.rest_rank (g.M.Machine.does c.args.machine.now) (record { told = g.M.Machine.told c.args.machine.now; state = g.M.Machine.state c.args.machine.now; messages = g.M.Machine.messages c.args.machine.now; left = c.args.ticks.now.left; links = c.args.stacks.now.links.items; choices = c.args.stacks.now.choices.items }) c.args.start c.args.at (g.M.Machine.does c.turns.machine) (g.met.M.Machine.keeps_does c.args.machine.now c.turns.machine c.turns.invariant.later) (record { told = g.M.Machine.told c.turns.machine; state = g.M.Machine.state c.turns.machine; messages = g.M.Machine.messages c.turns.machine; left = c.turns.ticks.left; links = c.turns.stacks.links.items; choices = c.turns.stacks.choices.items }) c.turns.doing c.turns.place c.turns.invariant.leads (record { told = g.M.Machine.told c.turn.new.machine; state = g.M.Machine.state c.turn.new.machine; messages = g.M.Machine.messages c.turn.new.machine; left = c.turn.new.ticks.left; links = c.turn.new.stacks.links.items; choices = c.turn.new.stacks.choices.items }) (Ok (GoesOn c.in-GoesOn.next c.in-GoesOn.below)) (subst (λ z. Turns g.M.Machine.rank g.M.Machine.rest_rank (g.M.Machine.does c.turns.machine) (record { told = g.M.Machine.told c.turns.machine; state = g.M.Machine.state c.turns.machine; messages = g.M.Machine.messages c.turns.machine; left = c.turns.ticks.left; links = c.turns.stacks.links.items; choices = c.turns.stacks.choices.items }) c.turns.doing c.turns.place (record { told = g.M.Machine.told c.turn.new.machine; state = g.M.Machine.state c.turn.new.machine; messages = g.M.Machine.messages c.turn.new.machine; left = c.turn.new.ticks.left; links = c.turn.new.stacks.links.items; choices = c.turn.new.stacks.choices.items }) (Ok z)) c.in-GoesOn.is c.in_ok-answer.ensures.turns)

pub turns-preserved : goal.turns-preserved
turns-preserved g c =
    let has : Held (g.M.Machine.known c.turn.new.machine) c.turn.new.stacks.links.items c.turn.new.stacks.choices.items c.turn.new.stacks.tops.items × (HasDoing (g.M.Machine.known c.turn.new.machine) c.in-GoesOn.next × (c.in-GoesOn.below ≤ length c.turn.new.stacks.links.items)) =
    subst (λ z. Held (g.M.Machine.known c.turn.new.machine) c.turn.new.stacks.links.items c.turn.new.stacks.choices.items c.turn.new.stacks.tops.items × TurnHas (g.M.Machine.known c.turn.new.machine) (length c.turn.new.stacks.links.items) z) c.in-GoesOn.is c.in_ok-answer.ensures.held in
    record {
      later = g.met.M.Machine.later_trans c.args.machine.now c.turns.machine c.turn.new.machine c.turns.invariant.later c.turn.ensures.later;
      held = has.0;
      doing = has.1.0;
      place = has.1.1;
      leads = turn_leads g.M.Machine.rank g.M.Machine.rest_rank (g.M.Machine.does c.args.machine.now) (record { told = g.M.Machine.told c.args.machine.now; state = g.M.Machine.state c.args.machine.now; messages = g.M.Machine.messages c.args.machine.now; left = c.args.ticks.now.left; links = c.args.stacks.now.links.items; choices = c.args.stacks.now.choices.items }) c.args.start c.args.at (g.M.Machine.does c.turns.machine) (g.met.M.Machine.keeps_does c.args.machine.now c.turns.machine c.turns.invariant.later) (record { told = g.M.Machine.told c.turns.machine; state = g.M.Machine.state c.turns.machine; messages = g.M.Machine.messages c.turns.machine; left = c.turns.ticks.left; links = c.turns.stacks.links.items; choices = c.turns.stacks.choices.items }) c.turns.doing c.turns.place c.turns.invariant.leads (record { told = g.M.Machine.told c.turn.new.machine; state = g.M.Machine.state c.turn.new.machine; messages = g.M.Machine.messages c.turn.new.machine; left = c.turn.new.ticks.left; links = c.turn.new.stacks.links.items; choices = c.turn.new.stacks.choices.items }) (Ok (GoesOn c.in-GoesOn.next c.in-GoesOn.below)) (subst (λ z. Turns g.M.Machine.rank g.M.Machine.rest_rank (g.M.Machine.does c.turns.machine) (record { told = g.M.Machine.told c.turns.machine; state = g.M.Machine.state c.turns.machine; messages = g.M.Machine.messages c.turns.machine; left = c.turns.ticks.left; links = c.turns.stacks.links.items; choices = c.turns.stacks.choices.items }) c.turns.doing c.turns.place (record { told = g.M.Machine.told c.turn.new.machine; state = g.M.Machine.state c.turn.new.machine; messages = g.M.Machine.messages c.turn.new.machine; left = c.turn.new.ticks.left; links = c.turn.new.stacks.links.items; choices = c.turn.new.stacks.choices.items }) (Ok z)) c.in-GoesOn.is c.in_ok-answer.ensures.turns);
      unspent = c.if-ticks-whole.false;
      whole = c.turns.invariant.whole;
      left = omega arith;
      counted = omega arith;
    }

pub turns-smaller : goal.turns-smaller
turns-smaller g c =
    turn_falls g.M.Machine.rank g.M.Machine.rest_rank (g.M.Machine.does c.args.machine.now) (record { told = g.M.Machine.told c.args.machine.now; state = g.M.Machine.state c.args.machine.now; messages = g.M.Machine.messages c.args.machine.now; left = c.args.ticks.now.left; links = c.args.stacks.now.links.items; choices = c.args.stacks.now.choices.items }) c.args.start c.args.at (g.M.Machine.does c.turns.machine) (g.met.M.Machine.keeps_does c.args.machine.now c.turns.machine c.turns.invariant.later) (record { told = g.M.Machine.told c.turns.machine; state = g.M.Machine.state c.turns.machine; messages = g.M.Machine.messages c.turns.machine; left = c.turns.ticks.left; links = c.turns.stacks.links.items; choices = c.turns.stacks.choices.items }) c.turns.doing c.turns.place c.turns.invariant.leads (record { told = g.M.Machine.told c.turn.new.machine; state = g.M.Machine.state c.turn.new.machine; messages = g.M.Machine.messages c.turn.new.machine; left = c.turn.new.ticks.left; links = c.turn.new.stacks.links.items; choices = c.turn.new.stacks.choices.items }) c.in-GoesOn.next c.in-GoesOn.below (subst (λ z. Turns g.M.Machine.rank g.M.Machine.rest_rank (g.M.Machine.does c.turns.machine) (record { told = g.M.Machine.told c.turns.machine; state = g.M.Machine.state c.turns.machine; messages = g.M.Machine.messages c.turns.machine; left = c.turns.ticks.left; links = c.turns.stacks.links.items; choices = c.turns.stacks.choices.items }) c.turns.doing c.turns.place (record { told = g.M.Machine.told c.turn.new.machine; state = g.M.Machine.state c.turn.new.machine; messages = g.M.Machine.messages c.turn.new.machine; left = c.turn.new.ticks.left; links = c.turn.new.stacks.links.items; choices = c.turn.new.stacks.choices.items }) (Ok z)) c.in-GoesOn.is c.in_ok-answer.ensures.turns) c.requires.works (c.if-ticks-whole.false ∙ sym c.turns.invariant.unspent)
