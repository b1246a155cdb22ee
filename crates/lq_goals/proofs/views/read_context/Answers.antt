use Rattle.std.proofs.Common.{subst, sym, ap, None, ◌≡◌, ◌∙◌, take}
use Rattle.lq_terms.specs.declared.nodes.Hypothesis.{Hypothesis}
use Rattle.lq_terms.specs.Terms.{Grows}
use Rattle.lq_terms.specs.Contexts.{hypothesis_of}
use Rattle.lq_terms.proofs.Growth.{Grows-refl, Grows-trans}
use Rattle.lq_solving.specs.Stores.{read_hypothesis}
use Rattle.lq_evars.specs.Places.{store_of}
use Rattle.lq_evars.proofs.Growing.{HasStore-grown}
use Rattle.lq_states.specs.Views.{first_unfit}
use Rattle.lq_goals.specs.Seen.{CanRead, Tells, IsHypothesis, hypothesis_terms}
use Rattle.lq_goals.proofs.Seeing.{all_at, can_read_grown}
use Rattle.lq_goals.proofs.Viewing.{err_reads, kept_grown, can_has, hypothesis_reads_grown, context_none, context_none_unfit, context_err, context_fit, context_more_read}
use Rattle.lq_goals.proofs.views.read_context.Goals as goal

pub loop-hypothesis-init : goal.loop-hypothesis-init
loop-hypothesis-init c = record {
  read = context_none c.args.bank.now (store_of c.args.bank.now c.args.store.now) c.new-read.result c.new-read.ensures;
  fit = context_none_unfit (store_of c.args.bank.now c.args.store.now);
  grows = Grows-refl c.args.bank.now;
}

pub read_hypothesis-requires-clause-store : goal.read_hypothesis-requires-clause-store
read_hypothesis-requires-clause-store c = HasStore-grown c.args.bank.now c.loop-hypothesis.bank c.loop-hypothesis.invariant.grows c.args.store.now c.requires.store

pub read_hypothesis-requires-clause-kept : goal.read_hypothesis-requires-clause-kept
read_hypothesis-requires-clause-kept c = kept_grown c.args.bank.now c.loop-hypothesis.bank c.loop-hypothesis.invariant.grows c.args.store.now c.requires.store c.requires.kept

pub read_hypothesis-requires-clause-hypothesis : goal.read_hypothesis-requires-clause-hypothesis
read_hypothesis-requires-clause-hypothesis c =
    can_read_grown c.args.bank.now c.loop-hypothesis.bank c.loop-hypothesis.invariant.grows c.args.store.now c.requires.store _
    (all_at (CanRead c.args.bank.now c.args.store.now) c.args.context.now c.loop-hypothesis.hypothesis-index _ c.loop-hypothesis-test.true c.requires.context)

pub returns-in_err-next-clause-told : goal.returns-in_err-next-clause-told
returns-in_err-next-clause-told c =
    let can = all_at (CanRead c.args.bank.now c.args.store.now) c.args.context.now c.loop-hypothesis.hypothesis-index (record { name = record { place = 0 }; body = None; kind = record { place = 0 } }) c.loop-hypothesis-test.true c.requires.context in
    err_reads _ c.from_residual.result c.in_err-next.field-0.0 _ c.from_residual.ensures.1
    (context_err c.args.bank.now c.args.context.now c.loop-hypothesis.hypothesis-index (record { name = record { place = 0 }; body = None; kind = record { place = 0 } }) c.loop-hypothesis-test.true
    (store_of c.args.bank.now c.args.store.now) c.in_err-next.field-0.0 c.loop-hypothesis.invariant.fit
    (subst (λ x. Tells c.in_err-next.field-0.0 (first_unfit (hypothesis_terms x)))
    (hypothesis_reads_grown c.args.bank.now c.loop-hypothesis.bank c.loop-hypothesis.invariant.grows c.args.store.now c.requires.store _ (can_has c.args.bank.now c.args.store.now _ can))
    c.in_err-next.ensures.told))

pub loop-hypothesis-preserved : goal.loop-hypothesis-preserved
loop-hypothesis-preserved c =
    let d : Hypothesis = record { name = record { place = 0 }; body = None; kind = record { place = 0 } } in
    let can = all_at (CanRead c.args.bank.now c.args.store.now) c.args.context.now c.loop-hypothesis.hypothesis-index d c.loop-hypothesis-test.true c.requires.context in
    let same = hypothesis_reads_grown c.args.bank.now c.loop-hypothesis.bank c.loop-hypothesis.invariant.grows c.args.store.now c.requires.store _ (can_has c.args.bank.now c.args.store.now _ can) in
    record {
      read =
          context_more_read c.args.bank.now c.args.context.now c.loop-hypothesis.hypothesis-index d c.loop-hypothesis-test.true c.loop-hypothesis.bank c.read_hypothesis.new.bank c.read_hypothesis.ensures.grows
          (store_of c.args.bank.now c.args.store.now) c.loop-hypothesis.read c.push.new.self c.in_ok-next.next c.loop-hypothesis.invariant.read
          (subst (λ x. IsHypothesis c.read_hypothesis.new.bank x c.in_ok-next.next) same c.in_ok-next.ensures.told.1) c.in_ok-push.ensures.ok;
      fit =
          context_fit c.args.bank.now c.args.context.now c.loop-hypothesis.hypothesis-index d c.loop-hypothesis-test.true (store_of c.args.bank.now c.args.store.now) c.loop-hypothesis.invariant.fit
          (sym (ap (λ x. first_unfit (hypothesis_terms x)) same) ∙ c.in_ok-next.ensures.told.0);
      grows = Grows-trans c.args.bank.now c.loop-hypothesis.bank c.read_hypothesis.new.bank c.loop-hypothesis.invariant.grows c.read_hypothesis.ensures.grows;
    }
