use Rattle.std.proofs.Common.{◌≤◌, ◌∷◌, refl, subst}
use Rattle.lq_stream.specs.Holding.{IsChoice, HasFirst}
use Rattle.lq_stream.specs.Reading.{stack_at, choice_of}
use Rattle.lq_stream.proofs.FailArms.{taken, caught, past_passed, past_lower, past_sole, looked}
use Rattle.lq_stream.proofs.FailCosts.{falls_past, falls_taken, falls_caught, falls_looked}
use Rattle.lq_stream.proofs.steps.looked.Goals as goal

pub returns-in-Alternative-clause-stands : goal.returns-in-Alternative-clause-stands
returns-in-Alternative-clause-stands g c =
    λ ls hs f b q o. taken g.M.Machine.rest_rank (g.M.Machine.told c.args.machine.now) (g.M.Machine.does c.args.machine.now) (g.M.Machine.state c.args.machine.now) (g.M.Machine.state c.undo.new.self) ls (stack_at (g.M.Machine.told c.args.machine.now).rest ls c.args.place) hs f c.args.choice 0 b c.in-Alternative.code c.in-Alternative.mark c.in-Alternative.at c.in-Alternative.is refl c.undo.ensures.state q

pub returns-in-Alternative-clause-falls : goal.returns-in-Alternative-clause-falls
returns-in-Alternative-clause-falls g c =
    λ ls hs f b q. falls_taken g.M.Machine.rank g.M.Machine.rest_rank (g.M.Machine.told c.args.machine.now) (g.M.Machine.does c.args.machine.now) (g.M.Machine.state c.args.machine.now) ls (stack_at (g.M.Machine.told c.args.machine.now).rest ls c.args.place) hs f c.args.choice 0 b c.in-Alternative.code c.in-Alternative.mark c.in-Alternative.at c.in-Alternative.is

pub returns-in-Alternative-clause-keeps : goal.returns-in-Alternative-clause-keeps
returns-in-Alternative-clause-keeps g c =
    λ n o q.
    let p : (g.M.Machine.known c.args.machine.now).code c.in-Alternative.code × (g.M.Machine.known c.args.machine.now).mark c.in-Alternative.mark × (c.in-Alternative.at ≤ n) =
    subst (λ x. IsChoice (g.M.Machine.known c.args.machine.now) n x) c.in-Alternative.is q in
    (p.0, p.2)

pub returns-in-Otherwise-clause-stands : goal.returns-in-Otherwise-clause-stands
returns-in-Otherwise-clause-stands g c =
    λ ls hs f b q o. caught g.M.Machine.rest_rank (g.M.Machine.told c.args.machine.now) (g.M.Machine.does c.args.machine.now) (g.M.Machine.state c.args.machine.now) (g.M.Machine.state c.undo-in-Otherwise.new.self) ls (stack_at (g.M.Machine.told c.args.machine.now).rest ls c.args.place) hs f c.args.choice 0 b c.in-Otherwise.code c.in-Otherwise.mark c.in-Otherwise.at c.in-Otherwise.is refl c.undo-in-Otherwise.ensures.state q

pub returns-in-Otherwise-clause-falls : goal.returns-in-Otherwise-clause-falls
returns-in-Otherwise-clause-falls g c =
    λ ls hs f b q. falls_caught g.M.Machine.rank g.M.Machine.rest_rank (g.M.Machine.told c.args.machine.now) (g.M.Machine.does c.args.machine.now) (g.M.Machine.state c.args.machine.now) ls (stack_at (g.M.Machine.told c.args.machine.now).rest ls c.args.place) hs f c.args.choice 0 b c.in-Otherwise.code c.in-Otherwise.mark c.in-Otherwise.at c.in-Otherwise.is refl q

pub returns-in-Otherwise-clause-keeps : goal.returns-in-Otherwise-clause-keeps
returns-in-Otherwise-clause-keeps g c =
    λ n o q.
    let p : (g.M.Machine.known c.args.machine.now).code c.in-Otherwise.code × (g.M.Machine.known c.args.machine.now).mark c.in-Otherwise.mark × (c.in-Otherwise.at ≤ n) =
    subst (λ x. IsChoice (g.M.Machine.known c.args.machine.now) n x) c.in-Otherwise.is q in
    (p.0, p.2)

pub returns-in-FirstSuccess-clause-stands : goal.returns-in-FirstSuccess-clause-stands
returns-in-FirstSuccess-clause-stands g c =
    λ ls hs f b q o. looked g.M.Machine.rest_rank (g.M.Machine.told c.args.machine.now) (g.M.Machine.does c.args.machine.now) (g.M.Machine.state c.args.machine.now) (g.M.Machine.state c.undo-in-FirstSuccess.new.self) ls (stack_at (g.M.Machine.told c.args.machine.now).rest ls c.args.place) hs f c.args.choice 0 b c.in-FirstSuccess.field-0 c.in-FirstSuccess.mark c.in-FirstSuccess.value c.in-FirstSuccess.at c.in-FirstSuccess.is c.undo-in-FirstSuccess.ensures.state q

pub returns-in-FirstSuccess-clause-falls : goal.returns-in-FirstSuccess-clause-falls
returns-in-FirstSuccess-clause-falls g c =
    λ ls hs f b q. falls_looked g.M.Machine.rank g.M.Machine.rest_rank (g.M.Machine.told c.args.machine.now) (g.M.Machine.does c.args.machine.now) (g.M.Machine.state c.args.machine.now) ls (stack_at (g.M.Machine.told c.args.machine.now).rest ls c.args.place) hs f c.args.choice 0 b c.in-FirstSuccess.field-0 c.in-FirstSuccess.mark c.in-FirstSuccess.value c.in-FirstSuccess.at c.in-FirstSuccess.is q

pub returns-in-FirstSuccess-clause-keeps : goal.returns-in-FirstSuccess-clause-keeps
returns-in-FirstSuccess-clause-keeps g c =
    λ n o q.
    let p : (g.M.Machine.known c.args.machine.now).cause c.in-FirstSuccess.field-0 × (g.M.Machine.known c.args.machine.now).mark c.in-FirstSuccess.mark
    × (g.M.Machine.known c.args.machine.now).value c.in-FirstSuccess.value × (c.in-FirstSuccess.at ≤ n) =
    subst (λ x. IsChoice (g.M.Machine.known c.args.machine.now) n x) c.in-FirstSuccess.is q in
    (p.2, p.3)

pub returns-in-Lowering-clause-stands : goal.returns-in-Lowering-clause-stands
returns-in-Lowering-clause-stands g c =
    λ ls hs f b q o. (b, past_lower g.M.Machine.rest_rank (g.M.Machine.told c.args.machine.now) (g.M.Machine.does c.args.machine.now) (g.M.Machine.state c.args.machine.now) (g.M.Machine.state c.args.machine.now) ls (stack_at (g.M.Machine.told c.args.machine.now).rest ls c.args.place) hs f c.args.choice 0 b 0 c.in-Lowering.is refl refl q, subst (λ z. HasFirst (choice_of (g.M.Machine.told c.args.machine.now) ls z ∷ hs)) c.in-Lowering.is o)

pub returns-in-Lowering-clause-falls : goal.returns-in-Lowering-clause-falls
returns-in-Lowering-clause-falls g c =
    λ ls hs f b q. falls_past g.M.Machine.rank g.M.Machine.rest_rank (g.M.Machine.told c.args.machine.now) (g.M.Machine.does c.args.machine.now) (g.M.Machine.state c.args.machine.now) ls (stack_at (g.M.Machine.told c.args.machine.now).rest ls c.args.place) hs f c.args.choice 0 b

pub returns-in-Passed-clause-stands : goal.returns-in-Passed-clause-stands
returns-in-Passed-clause-stands g c =
    λ ls hs f b q o. (b, past_passed g.M.Machine.rest_rank (g.M.Machine.told c.args.machine.now) (g.M.Machine.does c.args.machine.now) (g.M.Machine.state c.args.machine.now) (g.M.Machine.state c.args.machine.now) ls (stack_at (g.M.Machine.told c.args.machine.now).rest ls c.args.place) hs f c.args.choice 0 b c.in-Passed.is refl q, subst (λ z. HasFirst (choice_of (g.M.Machine.told c.args.machine.now) ls z ∷ hs)) c.in-Passed.is o)

pub returns-in-Passed-clause-falls : goal.returns-in-Passed-clause-falls
returns-in-Passed-clause-falls g c =
    λ ls hs f b q. falls_past g.M.Machine.rank g.M.Machine.rest_rank (g.M.Machine.told c.args.machine.now) (g.M.Machine.does c.args.machine.now) (g.M.Machine.state c.args.machine.now) ls (stack_at (g.M.Machine.told c.args.machine.now).rest ls c.args.place) hs f c.args.choice 0 b

pub returns-clause-stands : goal.returns-clause-stands
returns-clause-stands g c =
    λ ls hs f b q o. (b, past_sole g.M.Machine.rest_rank (g.M.Machine.told c.args.machine.now) (g.M.Machine.does c.args.machine.now) (g.M.Machine.state c.args.machine.now) (g.M.Machine.state c.args.machine.now) ls (stack_at (g.M.Machine.told c.args.machine.now).rest ls c.args.place) hs f c.args.choice 0 b c.in-NoSuccess.field-0 c.in-NoSuccess.field-1 c.in-NoSuccess.is refl q, subst (λ z. HasFirst (choice_of (g.M.Machine.told c.args.machine.now) ls z ∷ hs)) c.in-NoSuccess.is o)

pub returns-clause-falls : goal.returns-clause-falls
returns-clause-falls g c =
    λ ls hs f b q. falls_past g.M.Machine.rank g.M.Machine.rest_rank (g.M.Machine.told c.args.machine.now) (g.M.Machine.does c.args.machine.now) (g.M.Machine.state c.args.machine.now) ls (stack_at (g.M.Machine.told c.args.machine.now).rest ls c.args.place) hs f c.args.choice 0 b
