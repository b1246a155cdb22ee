use Rattle.std.proofs.Common.{rules, ◌≡◌, ◌+◌, ◌∷◌, refl, sym, arith, length, None}
use Rattle.std.proofs.Common.{subst as along}
use Rattle.lq_unify.specs.declared.frames.Frame.{Frame}
use Rattle.lq_unify.specs.declared.resuming.Next.{Next}
use Rattle.lq_unify.specs.Turns.{IsNext, Goes}
use Rattle.lq_unify.proofs.FrameSteps.{pair_next, pair_goes, parts_off, parts_done, under_next, under_goes}
use Rattle.lq_unify.proofs.resuming.next_part.Goals as goal

pub returns-then-parts-len-clause-is : goal.returns-then-parts-len-clause-is
returns-then-parts-len-clause-is c = λ bank s e w. let n : c.len.result ≡ length c.args.parts.form.pairs.items = search rules in
    along (λ z. IsNext bank s c.args.context.now z (Next.Ask c.index-pair.result.now)) (sym c.in_ok-push.ensures.ok)
    (along (λ z. IsNext bank s c.args.context.now (Frame.Parts (record { mark = c.args.parts.mark; next = c.args.parts.next + 1; form = c.args.parts.form }) ∷ c.args.frames.now) (Next.Ask z)) (sym c.index-pair.ensures)
    (pair_next bank s c.args.context.now c.args.frames.now c.args.parts e w c.index-pair.result.now (omega (arith, n, c.if-parts-len.true)) (record { mark = c.args.parts.mark; next = c.args.parts.next + 1; form = c.args.parts.form }) refl refl refl))

pub returns-then-parts-len-clause-goes : goal.returns-then-parts-len-clause-goes
returns-then-parts-len-clause-goes c = λ bank s r f b l e w h. let n : c.len.result ≡ length c.args.parts.form.pairs.items = search rules in
    along (λ z. Goes r f b l bank s c.args.context.now z (Next.Ask c.index-pair.result.now)) (sym c.in_ok-push.ensures.ok)
    (along (λ z. Goes r f b l bank s c.args.context.now (Frame.Parts (record { mark = c.args.parts.mark; next = c.args.parts.next + 1; form = c.args.parts.form }) ∷ c.args.frames.now) (Next.Ask z)) (sym c.index-pair.ensures)
    (pair_goes bank s c.args.context.now c.args.frames.now c.args.parts e w c.index-pair.result.now (omega (arith, n, c.if-parts-len.true)) (record { mark = c.args.parts.mark; next = c.args.parts.next + 1; form = c.args.parts.form }) refl refl refl r f b l h))

pub returns-in_default-clause-is : goal.returns-in_default-clause-is
returns-in_default-clause-is c = λ bank s e w. record { work = parts_off bank s c.args.context.now c.args.frames.now c.args.parts e w; stands = tt }

pub returns-in_default-clause-goes : goal.returns-in_default-clause-goes
returns-in_default-clause-goes c = λ bank s r f b l e w h. let n : c.len.result ≡ length c.args.parts.form.pairs.items = search rules in
    parts_done bank s c.args.context.now c.args.frames.now c.args.parts e w (omega (arith, n, c.if-parts-len.false)) r f b l c.in_default.is h

pub returns-clause-is : goal.returns-clause-is
returns-clause-is c = λ bank s e w. let n : c.len.result ≡ length c.args.parts.form.pairs.items = search rules in
    along (λ z. IsNext bank s c.push-2.new.self z (Next.Ask c.in-Some.under.pair)) (sym c.in_ok-push-3.ensures.ok)
    (under_next bank s c.args.context.now c.args.frames.now c.args.parts e w (omega (arith, n, c.if-parts-len.false)) c.in-Some.under c.in-Some.is c.push-2.new.self c.in_ok-push-2.ensures.ok (record { mark = c.args.parts.mark; next = c.args.parts.next; form = record { pairs = c.args.parts.form.pairs; under = None } }) refl refl refl refl)

pub returns-clause-goes : goal.returns-clause-goes
returns-clause-goes c = λ bank s r f b l e w h. let n : c.len.result ≡ length c.args.parts.form.pairs.items = search rules in
    along (λ z. Goes r f b l bank s c.push-2.new.self z (Next.Ask c.in-Some.under.pair)) (sym c.in_ok-push-3.ensures.ok)
    (under_goes bank s c.args.context.now c.args.frames.now c.args.parts e w (omega (arith, n, c.if-parts-len.false)) c.in-Some.under c.in-Some.is c.push-2.new.self c.in_ok-push-2.ensures.ok (record { mark = c.args.parts.mark; next = c.args.parts.next; form = record { pairs = c.args.parts.form.pairs; under = None } }) refl refl refl refl r f b l h)
