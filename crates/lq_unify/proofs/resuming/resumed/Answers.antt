use Rattle.std.proofs.Common.{◌≤◌, ◌+◌, true, false, sym, refl, IfOk}
use Rattle.std.proofs.Common.{subst as along}
use Rattle.lq_unify.specs.declared.frames.Frame.{Frame}
use Rattle.lq_unify.specs.Frames.{turn_weight, turns}
use Rattle.lq_unify.specs.Turns.{due}
use Rattle.lq_unify.proofs.FrameSteps.{parts_off, parts_no, since_pop, since_as, shorter_mark, shorter_work, shorter_answer}
use Rattle.lq_unify.proofs.resuming.resumed.Goals as goal

pub returns-then-not-yes-clause-is : goal.returns-then-not-yes-clause-is
returns-then-not-yes-clause-is c = λ bank w. record {
  work = parts_off bank c.args.store.now c.shorten.new.context c.args.frames.now c.in-Parts.parts (shorter_mark bank c.args.store.now c.args.context.now c.shorten.new.context c.args.frames.now c.args.frame (Frame.Parts c.in-Parts.parts) c.in-Parts.is c.shorten.ensures w) (shorter_work bank c.args.store.now c.args.context.now c.shorten.new.context c.args.frames.now c.args.frame (Frame.Parts c.in-Parts.parts) c.in-Parts.is c.shorten.ensures w);
  stands = tt;
}

pub returns-then-not-yes-clause-goes : goal.returns-then-not-yes-clause-goes
returns-then-not-yes-clause-goes c = λ bank r f b l w h.
    parts_no bank c.args.store.now c.shorten.new.context c.args.frames.now c.in-Parts.parts (shorter_mark bank c.args.store.now c.args.context.now c.shorten.new.context c.args.frames.now c.args.frame (Frame.Parts c.in-Parts.parts) c.in-Parts.is c.shorten.ensures w) (shorter_work bank c.args.store.now c.args.context.now c.shorten.new.context c.args.frames.now c.args.frame (Frame.Parts c.in-Parts.parts) c.in-Parts.is c.shorten.ensures w) r f b l (shorter_answer bank c.args.store.now c.args.context.now c.shorten.new.context c.args.frames.now c.args.frame (Frame.Parts c.in-Parts.parts) c.in-Parts.is c.shorten.ensures w r f b l c.args.yes false c.if-not-yes.true h)

pub returns-then-not-yes-clause-since : goal.returns-then-not-yes-clause-since
returns-then-not-yes-clause-since c = λ before h. since_pop before c.args.store.now c.args.frame c.args.frames.now h

pub returns-else-not-yes-clause-is : goal.returns-else-not-yes-clause-is
returns-else-not-yes-clause-is c = λ bank w. c.next_part.ensures.is bank c.args.store.now (shorter_mark bank c.args.store.now c.args.context.now c.shorten.new.context c.args.frames.now c.args.frame (Frame.Parts c.in-Parts.parts) c.in-Parts.is c.shorten.ensures w) (shorter_work bank c.args.store.now c.args.context.now c.shorten.new.context c.args.frames.now c.args.frame (Frame.Parts c.in-Parts.parts) c.in-Parts.is c.shorten.ensures w)

pub returns-else-not-yes-clause-goes : goal.returns-else-not-yes-clause-goes
returns-else-not-yes-clause-goes c = λ bank r f b l w h. c.next_part.ensures.goes bank c.args.store.now r f b l (shorter_mark bank c.args.store.now c.args.context.now c.shorten.new.context c.args.frames.now c.args.frame (Frame.Parts c.in-Parts.parts) c.in-Parts.is c.shorten.ensures w) (shorter_work bank c.args.store.now c.args.context.now c.shorten.new.context c.args.frames.now c.args.frame (Frame.Parts c.in-Parts.parts) c.in-Parts.is c.shorten.ensures w) (shorter_answer bank c.args.store.now c.args.context.now c.shorten.new.context c.args.frames.now c.args.frame (Frame.Parts c.in-Parts.parts) c.in-Parts.is c.shorten.ensures w r f b l c.args.yes true c.if-not-yes.false h)

pub returns-else-not-yes-clause-since : goal.returns-else-not-yes-clause-since
returns-else-not-yes-clause-since c = λ before h. c.next_part.ensures.since before c.args.store.now (since_pop before c.args.store.now c.args.frame c.args.frames.now h)

pub returns-else-not-yes-clause-falls : goal.returns-else-not-yes-clause-falls
returns-else-not-yes-clause-falls c = along (λ z. IfOk c.next_part.result (λ n. turns c.next_part.new.frames + due n ≤ turn_weight z + turns c.args.frames.now)) (sym c.in-Parts.is) c.next_part.ensures.falls

pub returns-in-Reducing-clause-is : goal.returns-in-Reducing-clause-is
returns-in-Reducing-clause-is c = λ bank w. c.next_form.ensures.is bank c.shorten-in-Reducing.new.context c.args.frames.now (shorter_mark bank c.args.store.now c.args.context.now c.shorten-in-Reducing.new.context c.args.frames.now c.args.frame (Frame.Reducing c.in-Reducing.reducing) c.in-Reducing.is c.shorten-in-Reducing.ensures w) (shorter_work bank c.args.store.now c.args.context.now c.shorten-in-Reducing.new.context c.args.frames.now c.args.frame (Frame.Reducing c.in-Reducing.reducing) c.in-Reducing.is c.shorten-in-Reducing.ensures w)

pub returns-in-Reducing-clause-goes : goal.returns-in-Reducing-clause-goes
returns-in-Reducing-clause-goes c = λ bank r f b l w h. c.next_form.ensures.goes bank c.shorten-in-Reducing.new.context c.args.frames.now r f b l (shorter_mark bank c.args.store.now c.args.context.now c.shorten-in-Reducing.new.context c.args.frames.now c.args.frame (Frame.Reducing c.in-Reducing.reducing) c.in-Reducing.is c.shorten-in-Reducing.ensures w) (shorter_work bank c.args.store.now c.args.context.now c.shorten-in-Reducing.new.context c.args.frames.now c.args.frame (Frame.Reducing c.in-Reducing.reducing) c.in-Reducing.is c.shorten-in-Reducing.ensures w) (shorter_answer bank c.args.store.now c.args.context.now c.shorten-in-Reducing.new.context c.args.frames.now c.args.frame (Frame.Reducing c.in-Reducing.reducing) c.in-Reducing.is c.shorten-in-Reducing.ensures w r f b l c.args.yes c.args.yes refl h)

pub returns-in-Reducing-clause-since : goal.returns-in-Reducing-clause-since
returns-in-Reducing-clause-since c = λ before h. c.next_form.ensures.since before c.args.frames.now (since_as before c.args.store.now c.args.frame (Frame.Reducing c.in-Reducing.reducing) c.args.frames.now c.in-Reducing.is h)
