use Rattle.std.proofs.Common.{◌∷◌, ◌∙◌, refl, sym, ap, arith}
use Rattle.std.proofs.Common.{subst as along}
use Rattle.lq_terms.specs.Contexts.{context_of}
use Rattle.lq_solving.specs.Waiting.{parts}
use Rattle.lq_unify.specs.Forms.{form_in}
use Rattle.lq_unify.specs.Frames.{IsWork, waits, turns}
use Rattle.lq_unify.proofs.RowSteps.{form_work, form_waits}
use Rattle.lq_unify.proofs.PushLaws.{on_ok, since_parts}
use Rattle.lq_unify.proofs.turns.wait_for.Goals as goal

pub returns-clause-work : goal.returns-clause-work
returns-clause-work c = λ bank hs e w k f a. on_ok c.push.result c.push.ensures.ok (λ q. along (IsWork bank c.args.store.now hs) (sym q)
    (form_work bank c.args.store.now hs c.remember.new.frames (record { mark = c.args.mark; next = 0; form = c.args.form }) e refl (c.in_ok-remember.ensures.work bank hs e w k) f a))

pub returns-clause-waits : goal.returns-clause-waits
returns-clause-waits c = λ bank hs e. on_ok c.push.result c.push.ensures.ok (λ q.
    ap (waits bank c.args.store.now hs) q ∙ form_waits bank c.args.store.now hs c.remember.new.frames (record { mark = c.args.mark; next = 0; form = c.args.form }) e refl
    ∙ ap (λ z. parts (form_in bank (context_of bank hs) c.args.form) ∷ z) (c.in_ok-remember.ensures.waits bank hs e))

pub returns-clause-since : goal.returns-clause-since
returns-clause-since c = λ before h. since_parts c.push.result before c.args.store.now c.remember.new.frames c.push.new.self (record { mark = c.args.mark; next = 0; form = c.args.form }) c.push.ensures.ok c.push.ensures.err (c.in_ok-remember.ensures.since before h)

pub returns-clause-falls : goal.returns-clause-falls
returns-clause-falls c = on_ok c.push.result c.push.ensures.ok (λ q. omega (arith, c.in_ok-remember.ensures.falls, ap turns q))
