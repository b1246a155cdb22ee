use Rattle.std.proofs.Common.{◌≡◌, ◌∙◌, ◌<◌, length, None, Some, subst, sym}
use Rattle.std.specs.Prelude.{slice_get}
use Rattle.lq_session.specs.Checking.{IsHere}
use Rattle.lq_session.proofs.CheckLaws.{here_none, here_goal, goal_inside}
use Rattle.lq_session.proofs.checking.context_here.Goals as goal

pub returns-in_default : goal.returns-in_default
returns-in_default c =
    subst (IsHere c.args.bank.now c.args.opened.now) (sym c.new.ensures)
    (here_none c.args.bank.now c.args.opened.now c.requires (subst (λ z. slice_get z 0 ≡ None) c.focused.ensures (sym c.in_default.ensures.value)))

pub context-requires : goal.context-requires
context-requires c =
    subst (λ z. c.in-Some.goal.now < length z.variables) (sym c.store.ensures)
    (goal_inside c.args.bank.now c.args.opened.now c.requires c.in-Some.goal.now (subst (λ z. slice_get z 0 ≡ Some c.in-Some.goal.now) c.focused.ensures (sym c.in-Some.ensures.value)))

pub returns-in-Ok : goal.returns-in-Ok
returns-in-Ok c =
    here_goal c.args.bank.now c.args.opened.now c.requires c.in-Some.goal.now c.from_hypotheses.result (subst (λ z. slice_get z 0 ≡ Some c.in-Some.goal.now) c.focused.ensures (sym c.in-Some.ensures.value))
    (λ v e. c.from_hypotheses.ensures ∙ c.in-Ok.ensures.items ∙ c.hypotheses.ensures ∙ c.context.ensures.place v (subst (λ z. slice_get z.variables c.in-Some.goal.now ≡ Some v) (sym c.store.ensures) e))
