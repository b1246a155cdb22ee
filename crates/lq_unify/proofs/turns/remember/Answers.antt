use Rattle.std.proofs.Common.{◌∙◌, refl, sym, ap, arith}
use Rattle.std.proofs.Common.{subst as along}
use Rattle.lq_terms.specs.Contexts.{context_of}
use Rattle.lq_terms.specs.Terms.{tree_of}
use Rattle.lq_evars.specs.Places.{store_of}
use Rattle.lq_unify.specs.declared.frames.Frame.{Frame}
use Rattle.lq_unify.specs.Frames.{IsWork, waits}
use Rattle.lq_unify.specs.Turns.{looked}
use Rattle.lq_unify.proofs.RowSteps.{look_work, look_waits}
use Rattle.lq_unify.proofs.PushLaws.{on_ok, since_look, look_falls, pass_falls}
use Rattle.lq_unify.proofs.turns.remember.Goals as goal

pub returns-then-not-first-clause-work : goal.returns-then-not-first-clause-work
returns-then-not-first-clause-work c = λ bank hs e w k. w

pub returns-then-not-first-clause-waits : goal.returns-then-not-first-clause-waits
returns-then-not-first-clause-waits c = λ bank hs e. ap (λ b. looked b (context_of bank hs) (store_of bank c.args.store.now) (tree_of bank c.args.pair.left) (tree_of bank c.args.pair.right) (waits bank c.args.store.now hs c.args.frames.now)) (sym c.if-not-first.true)

pub returns-then-not-first-clause-falls : goal.returns-then-not-first-clause-falls
returns-then-not-first-clause-falls c = pass_falls c.args.first c.args.frames.now

pub returns-clause-work : goal.returns-clause-work
returns-clause-work c = λ bank hs e w k. on_ok c.push.result c.push.ensures.ok (λ q. along (IsWork bank c.args.store.now hs) (sym q) (look_work bank c.args.store.now hs c.args.frames.now c.args.pair (record { mark = c.args.mark; given = c.given.result; pair = c.args.pair }) e c.given.ensures refl w k))

pub returns-clause-waits : goal.returns-clause-waits
returns-clause-waits c = λ bank hs e. on_ok c.push.result c.push.ensures.ok (λ q.
    ap (waits bank c.args.store.now hs) q ∙ look_waits bank c.args.store.now hs c.args.frames.now c.args.pair (record { mark = c.args.mark; given = c.given.result; pair = c.args.pair }) e c.given.ensures refl
    ∙ ap (λ b. looked b (context_of bank hs) (store_of bank c.args.store.now) (tree_of bank c.args.pair.left) (tree_of bank c.args.pair.right) (waits bank c.args.store.now hs c.args.frames.now)) (sym c.if-not-first.false))

pub returns-clause-since : goal.returns-clause-since
returns-clause-since c = λ before h. since_look c.push.result before c.args.store.now c.args.frames.now c.push.new.self (record { mark = c.args.mark; given = c.given.result; pair = c.args.pair }) c.given.ensures c.push.ensures.ok c.push.ensures.err h

pub returns-clause-falls : goal.returns-clause-falls
returns-clause-falls c = on_ok c.push.result c.push.ensures.ok (λ q. look_falls c.args.first (Frame.Reducing (record { mark = c.args.mark; given = c.given.result; pair = c.args.pair })) c.args.frames.now c.push.new.self (omega arith) c.if-not-first.false q)
