use Rattle.std.proofs.Common.{subst, sym, ap, Some, ◌≡◌, ◌∙◌, get_or}
use Rattle.lq_terms.proofs.Growth.{Grows-refl, Grows-trans}
use Rattle.lq_evars.specs.Places.{store_of}
use Rattle.lq_evars.proofs.Growing.{store_of-grown, HasStore-grown}
use Rattle.lq_states.specs.Views.{goal_view}
use Rattle.lq_goals.proofs.Seeing.{all_at}
use Rattle.lq_goals.proofs.Viewing.{err_reads, kept_grown}
use Rattle.lq_goals.proofs.ViewingGoals.{view_there, views_begin, views_begin_fit, views_err, views_fit, views_more}
use Rattle.lq_goals.proofs.views.read_goals.Goals as goal

pub loop-goal-init : goal.loop-goal-init
loop-goal-init c = record {
  read = views_begin c.args.bank.now (store_of c.args.bank.now c.args.store.now) c.new-read.result.items c.new-read.ensures.items;
  fit = views_begin_fit (store_of c.args.bank.now c.args.store.now);
  grows = Grows-refl c.args.bank.now;
}

pub read_goal-requires-clause-store : goal.read_goal-requires-clause-store
read_goal-requires-clause-store c = HasStore-grown c.args.bank.now c.loop-goal.bank c.loop-goal.invariant.grows c.args.store.now c.requires.store

pub read_goal-requires-clause-kept : goal.read_goal-requires-clause-kept
read_goal-requires-clause-kept c = kept_grown c.args.bank.now c.loop-goal.bank c.loop-goal.invariant.grows c.args.store.now c.requires.store c.requires.kept

pub returns-in_err-next-clause-told : goal.returns-in_err-next-clause-told
returns-in_err-next-clause-told c =
    let g = view_there c.args.bank.now c.args.store.now (get_or c.args.goals.now c.loop-goal.goal-index 0) (all_at _ c.args.goals.now c.loop-goal.goal-index 0 c.loop-goal-test.true c.requires.goals) in
    err_reads _ c.from_residual.result c.in_err-next.field-0.0 _ c.from_residual.ensures.1
    (views_err (store_of c.args.bank.now c.args.store.now) c.args.goals.now c.loop-goal.goal-index 0 c.loop-goal-test.true g.0 g.1 c.in_err-next.field-0.0 c.loop-goal.invariant.fit
    (c.in_err-next.ensures.told g.0
    (subst (λ s. goal_view s (get_or c.args.goals.now c.loop-goal.goal-index 0) ≡ Some g.0) (sym (store_of-grown c.args.bank.now c.loop-goal.bank c.loop-goal.invariant.grows c.args.store.now c.requires.store)) g.1)))

pub loop-goal-preserved : goal.loop-goal-preserved
loop-goal-preserved c =
    let g = view_there c.args.bank.now c.args.store.now (get_or c.args.goals.now c.loop-goal.goal-index 0) (all_at _ c.args.goals.now c.loop-goal.goal-index 0 c.loop-goal-test.true c.requires.goals) in
    let told =
    c.in_ok-next.ensures.told g.0
    (subst (λ s. goal_view s (get_or c.args.goals.now c.loop-goal.goal-index 0) ≡ Some g.0) (sym (store_of-grown c.args.bank.now c.loop-goal.bank c.loop-goal.invariant.grows c.args.store.now c.requires.store)) g.1) in
    record {
      read =
          views_more (store_of c.args.bank.now c.args.store.now) c.args.goals.now c.loop-goal.goal-index 0 c.loop-goal-test.true g.0 g.1 c.loop-goal.bank c.read_goal.new.bank c.read_goal.ensures.grows
          c.loop-goal.read.items c.add.new.views.items c.in_ok-next.next c.loop-goal.invariant.read told.1 c.in_ok-add.ensures;
      fit = views_fit (store_of c.args.bank.now c.args.store.now) c.args.goals.now c.loop-goal.goal-index 0 c.loop-goal-test.true g.0 g.1 c.loop-goal.invariant.fit told.0;
      grows = Grows-trans c.args.bank.now c.loop-goal.bank c.read_goal.new.bank c.loop-goal.invariant.grows c.read_goal.ensures.grows;
    }
