use Rattle.std.proofs.Common.{◌∷◌}
use Rattle.std.proofs.Common.{subst as along}
use Rattle.lq_unify.specs.declared.frames.Frame.{Frame}
use Rattle.lq_unify.specs.Turns.{HasAnswer}
use Rattle.lq_unify.proofs.FrameSteps.{passed_next, passed_goes, back_next, back_goes, since_pop, since_back, places_back}
use Rattle.lq_unify.proofs.resuming.next_form.Goals as goal

pub returns-then-yes-clause-is : goal.returns-then-yes-clause-is
returns-then-yes-clause-is c = λ bank hs fs e w. passed_next bank c.args.store.now hs fs c.args.reducing e w

pub returns-then-yes-clause-goes : goal.returns-then-yes-clause-goes
returns-then-yes-clause-goes c = λ bank hs fs r f b l e w h. passed_goes bank c.args.store.now hs fs c.args.reducing e w r f b l (along (HasAnswer r f b l bank c.args.store.now hs (Frame.Reducing c.args.reducing ∷ fs)) c.if-yes.true h)

pub returns-then-yes-clause-since : goal.returns-then-yes-clause-since
returns-then-yes-clause-since c = λ before fs h. since_pop before c.args.store.now (Frame.Reducing c.args.reducing) fs h

pub returns-clause-is : goal.returns-clause-is
returns-clause-is c = λ bank hs fs e w. back_next bank c.args.store.now hs fs c.args.reducing e w c.take_back.new.self (places_back c.args.store.now c.take_back.new.self c.args.reducing.given c.take_back.ensures.variables c.take_back.ensures.values)

pub returns-clause-goes : goal.returns-clause-goes
returns-clause-goes c = λ bank hs fs r f b l e w h.
    back_goes bank c.args.store.now hs fs c.args.reducing e w c.take_back.new.self (places_back c.args.store.now c.take_back.new.self c.args.reducing.given c.take_back.ensures.variables c.take_back.ensures.values) r f b l
    (along (HasAnswer r f b l bank c.args.store.now hs (Frame.Reducing c.args.reducing ∷ fs)) c.if-yes.false h)

pub returns-clause-since : goal.returns-clause-since
returns-clause-since c = λ before fs h. since_back before c.args.store.now c.take_back.new.self c.args.reducing fs c.take_back.ensures.variables c.take_back.ensures.values h
