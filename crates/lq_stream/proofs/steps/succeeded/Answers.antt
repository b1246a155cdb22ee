use Rattle.std.proofs.Common.{◌<◌, ◌∷◌, refl, sym, subst}
use Rattle.lq_runs.specs.Stacks as Stack
use Rattle.lq_runs.specs.Streams.{has, turns}
use Rattle.lq_stream.specs.declared.stacks.Frame.TheVariants.{Alone}
use Rattle.lq_stream.specs.Reading.{frame_of, stack_at, choices_of}
use Rattle.lq_stream.proofs.PlaceArms.{plain_frame, place_holds, place_read, over_stack, over_alone, falls_alone}
use Rattle.lq_stream.specs.Turning.{doing_turns}
use Rattle.lq_stream.proofs.steps.succeeded.Goals as goal

pub passed-requires : goal.passed-requires
passed-requires g c =
    record {
      rest = (place_holds (g.M.Machine.known c.args.machine.now).rest c.args.links.now.items c.args.place c.index-link.result.now c.requires.links c.requires.some c.requires.place c.index-link.ensures).1;
      value = c.requires.value;
      plain = plain_frame c.index-link.result.now.frame c.in_default.not-Alone;
    }

pub returns-in-Alone-clause-stands : goal.returns-in-Alone-clause-stands
returns-in-Alone-clause-stands g c =
    λ f q. over_alone g.M.Machine.rest_rank (g.M.Machine.told c.args.machine.now) (g.M.Machine.does c.args.machine.now) (g.M.Machine.state c.args.machine.now) (stack_at (g.M.Machine.told c.args.machine.now).rest c.args.links.now.items c.args.place) (Stack.alone c.in-Alone.height ∷ stack_at (g.M.Machine.told c.args.machine.now).rest c.args.links.now.items c.index-link.result.now.below) (choices_of (g.M.Machine.told c.args.machine.now) c.args.links.now.items c.args.choices.now.items)
    (choices_of (g.M.Machine.told c.args.machine.now) c.args.links.now.items c.found.new.choices.items) f c.found.result ((g.M.Machine.told c.args.machine.now).value c.args.value)
    (place_read (g.M.Machine.known c.args.machine.now).rest (g.M.Machine.told c.args.machine.now).rest c.args.links.now.items c.args.place c.index-link.result.now (Alone c.in-Alone.height) c.requires.links c.requires.some c.requires.place c.index-link.ensures c.in-Alone.is)
    (c.found.ensures.stands c.args.links.now.items (stack_at (g.M.Machine.told c.args.machine.now).rest c.args.links.now.items c.index-link.result.now.below) f) q

pub returns-in_ok-next-in_default : goal.returns-in_ok-next-in_default
returns-in_ok-next-in_default g c =
    record {
      later = c.in_ok-next-in_default.ensures.later;
      state = c.in_ok-next-in_default.ensures.state;
      messages = c.in_ok-next-in_default.ensures.messages;
      place = (place_holds (g.M.Machine.known c.args.machine.now).rest c.args.links.now.items c.args.place c.index-link.result.now c.requires.links c.requires.some c.requires.place c.index-link.ensures).0;
      keeps = c.in_ok-next-in_default.ensures.keeps;
      stands =
          λ f q. c.in_ok-next-in_default.ensures.stands c.args.links.now.items (stack_at (g.M.Machine.told c.args.machine.now).rest c.args.links.now.items c.index-link.result.now.below) f
          (over_stack g.M.Machine.rest_rank (g.M.Machine.told c.args.machine.now) (g.M.Machine.does c.args.machine.now) (g.M.Machine.state c.args.machine.now) (stack_at (g.M.Machine.told c.args.machine.now).rest c.args.links.now.items c.args.place) (frame_of (g.M.Machine.told c.args.machine.now).rest c.index-link.result.now.frame ∷ stack_at (g.M.Machine.told c.args.machine.now).rest c.args.links.now.items c.index-link.result.now.below) (choices_of (g.M.Machine.told c.args.machine.now) c.args.links.now.items c.args.choices.now.items) (choices_of (g.M.Machine.told c.args.machine.now) c.args.links.now.items c.args.choices.now.items) f (has ((g.M.Machine.told c.args.machine.now).value c.args.value))
          (place_read (g.M.Machine.known c.args.machine.now).rest (g.M.Machine.told c.args.machine.now).rest c.args.links.now.items c.args.place c.index-link.result.now c.index-link.result.now.frame c.requires.links c.requires.some c.requires.place c.index-link.ensures refl) q);
      shrinks = c.in_ok-next-in_default.ensures.shrinks;
      falls =
          λ f q. subst (λ z. doing_turns g.M.Machine.rank g.M.Machine.rest_rank (g.M.Machine.told c.passed.new.machine) c.in_ok-next-in_default.next (stack_at (g.M.Machine.told c.args.machine.now).rest c.args.links.now.items c.index-link.result.now.below) (choices_of (g.M.Machine.told c.args.machine.now) c.args.links.now.items c.passed.new.choices.items)
          < turns g.M.Machine.rank g.M.Machine.rest_rank (has ((g.M.Machine.told c.args.machine.now).value c.args.value)) z (choices_of (g.M.Machine.told c.args.machine.now) c.args.links.now.items c.args.choices.now.items))
          (sym (place_read (g.M.Machine.known c.args.machine.now).rest (g.M.Machine.told c.args.machine.now).rest c.args.links.now.items c.args.place c.index-link.result.now c.index-link.result.now.frame c.requires.links c.requires.some c.requires.place c.index-link.ensures refl))
          (c.in_ok-next-in_default.ensures.falls c.args.links.now.items (stack_at (g.M.Machine.told c.args.machine.now).rest c.args.links.now.items c.index-link.result.now.below));
    }

pub returns-in-Alone-clause-shrinks : goal.returns-in-Alone-clause-shrinks
returns-in-Alone-clause-shrinks g c =
    c.found.ensures.shrinks

pub returns-in-Alone-clause-falls : goal.returns-in-Alone-clause-falls
returns-in-Alone-clause-falls g c =
    λ f q. falls_alone g.M.Machine.rank g.M.Machine.rest_rank (g.M.Machine.told c.args.machine.now) (g.M.Machine.does c.args.machine.now) (g.M.Machine.state c.args.machine.now) (stack_at (g.M.Machine.told c.args.machine.now).rest c.args.links.now.items c.args.place) (Stack.alone c.in-Alone.height ∷ stack_at (g.M.Machine.told c.args.machine.now).rest c.args.links.now.items c.index-link.result.now.below) (choices_of (g.M.Machine.told c.args.machine.now) c.args.links.now.items c.args.choices.now.items)
    (choices_of (g.M.Machine.told c.args.machine.now) c.args.links.now.items c.found.new.choices.items) f c.found.result ((g.M.Machine.told c.args.machine.now).value c.args.value)
    (place_read (g.M.Machine.known c.args.machine.now).rest (g.M.Machine.told c.args.machine.now).rest c.args.links.now.items c.args.place c.index-link.result.now (Alone c.in-Alone.height) c.requires.links c.requires.some c.requires.place c.index-link.ensures c.in-Alone.is)
    (c.found.ensures.falls c.args.links.now.items (stack_at (g.M.Machine.told c.args.machine.now).rest c.args.links.now.items c.index-link.result.now.below) f) q
