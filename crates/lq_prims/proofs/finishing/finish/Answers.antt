use Rattle.std.proofs.Common.{◌∙◌, sym, ap}
use Rattle.std.proofs.Common.{subst as along}
use Rattle.lq_trees.specs.Ticks.{gives}
use Rattle.lq_solving.specs.Kept.{IsStore}
use Rattle.lq_states.specs.Goals.{without}
use Rattle.lq_tactics.specs.Rows.{made_open, listed}
use Rattle.lq_evars.specs.Places.{store_of}
use Rattle.lq_prims.specs.Finishing.{done_with}
use Rattle.lq_prims.specs.Working.{Refuses}
use Rattle.lq_prims.proofs.FinishLaws.{store_kept, lists_kept, may_replace, swept_still, listed_done, listed_fault}
use Rattle.lq_prims.proofs.finishing.finish.Goals as goal

pub returns-in-Ok-clause-answer : goal.returns-in-Ok-clause-answer
returns-in-Ok-clause-answer c bank p d st f =
    let old = c.args.proof.now in
    let is = c.as_slice.ensures.value ∙ c.in_ok-shelf.ensures bank (along (λ z. IsStore (store_of bank z)) (sym c.store.ensures) (store_kept bank old c.args.goal c.args.before c.args.goals.now p d st f)) p.store f.many
    ∙ ap (λ z. without c.args.goals.now (made_open p.store (store_of bank z))) c.store.ensures in
    listed_done bank old c.args.goal c.args.before c.args.goals.now p d st f c.as_slice.result.now is c.replace.new.self
    (c.in-Ok.ensures.told bank (lists_kept bank old c.args.goal c.args.before c.args.goals.now p d st f) (may_replace bank old c.args.goal c.args.before c.args.goals.now p d st f c.as_slice.result.now is)
    (swept_still bank old c.args.goal c.args.before c.args.goals.now p d st f))
    ∙ ap (λ z. gives (done_with bank c.replace.new.self c.args.goals.now z)) c.as_slice.ensures.value

pub returns-in-Ok-clause-stands : goal.returns-in-Ok-clause-stands
returns-in-Ok-clause-stands c bank p d st f =
    let old = c.args.proof.now in
    let is = c.as_slice.ensures.value ∙ c.in_ok-shelf.ensures bank (along (λ z. IsStore (store_of bank z)) (sym c.store.ensures) (store_kept bank old c.args.goal c.args.before c.args.goals.now p d st f)) p.store f.many
    ∙ ap (λ z. without c.args.goals.now (made_open p.store (store_of bank z))) c.store.ensures in
    c.in-Ok.ensures.stands bank (lists_kept bank old c.args.goal c.args.before c.args.goals.now p d st f) (may_replace bank old c.args.goal c.args.before c.args.goals.now p d st f c.as_slice.result.now is)
    (swept_still bank old c.args.goal c.args.before c.args.goals.now p d st f)

pub returns-in-Err-clause-answer : goal.returns-in-Err-clause-answer
returns-in-Err-clause-answer c bank p d st f b =
    let old = c.args.proof.now in
    let is = c.as_slice.ensures.value ∙ c.in_ok-shelf.ensures bank (along (λ z. IsStore (store_of bank z)) (sym c.store.ensures) (store_kept bank old c.args.goal c.args.before c.args.goals.now p d st f)) p.store f.many
    ∙ ap (λ z. without c.args.goals.now (made_open p.store (store_of bank z))) c.store.ensures in
    along (λ z. Refuses bank z (λ n. listed p c.args.goal st) b b) (sym c.from.ensures)
    (listed_fault bank old c.args.goal c.args.before c.args.goals.now p d st f c.as_slice.result.now is c.in-Err.fault c.replace.new.self
    (c.in-Err.ensures.told bank (lists_kept bank old c.args.goal c.args.before c.args.goals.now p d st f) (may_replace bank old c.args.goal c.args.before c.args.goals.now p d st f c.as_slice.result.now is)
    (swept_still bank old c.args.goal c.args.before c.args.goals.now p d st f)) b)
