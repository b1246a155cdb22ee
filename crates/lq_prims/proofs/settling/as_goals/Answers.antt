use Rattle.std.proofs.Common.{◌∙◌, ◌<◌, ◌+◌, refl, arith, get_or, drop, length, Ok, Err}
use Rattle.std.proofs.Common.{subst as along}
use Rattle.std.proofs.lemmas.List.{drop_more, drop_all}
use Rattle.lq_terms.proofs.Growth.{Grows-refl, Grows-trans}
use Rattle.lq_evars.specs.Places.{store_of}
use Rattle.lq_goals.proofs.Seeing.{all_at}
use Rattle.lq_prims.proofs.SettleLaws.{settle_more, settle_refused, settle_end}
use Rattle.lq_prims.proofs.settling.as_goals.Goals as goal

pub loop-goal-init : goal.loop-goal-init
loop-goal-init g c = record {
  has = c.requires.store;
  kept = c.requires.kept;
  count = refl;
  settles = λ f bound late s q left y. y;
  same_bank = refl;
  same_ticks = refl;
  grows = Grows-refl c.args.work.now.bank.now;
  budget = refl;
  counted = refl;
}

pub as_goal-requires : goal.as_goal-requires
as_goal-requires g c = record {
  place = record {
    store = c.loop-goal.invariant.has;
    kept = c.loop-goal.invariant.kept;
    goal = along (λ n. get_or c.args.goals.now c.loop-goal.goal-index 0 < n) (Rattle.std.proofs.Common.sym c.loop-goal.invariant.count) (all_at (λ k. k < length c.args.store.now.variables) c.args.goals.now c.loop-goal.goal-index 0 c.loop-goal-test.true c.requires.goals);
  };
}

pub returns-in-Err-clause-answer : goal.returns-in-Err-clause-answer
returns-in-Err-clause-answer g c f bound =
    let at = c.loop-goal.invariant in
    let s = store_of c.loop-goal.work.bank.now c.loop-goal.store in
    let i = c.loop-goal.goal-index in
    let ks = c.args.goals.now in
    let new = c.as_goal.new.work.bank.now in
    at.settles f bound new (store_of new c.as_goal.new.store) (Err c.in-Err.fault) c.as_goal.new.work.ticks.now.left
    (settle_refused f s (get_or ks i 0) (drop (i + 1) ks) (drop i ks) (drop_more ks i 0 c.loop-goal-test.true) c.loop-goal.work.ticks.now.left c.as_goal.new.work.ticks.now.left new c.in-Err.fault (c.in-Err.ensures.answer f bound))

pub loop-goal-preserved : goal.loop-goal-preserved
loop-goal-preserved g c =
    let at = c.loop-goal.invariant in
    let mid = c.loop-goal.work.bank.now in
    let s = store_of mid c.loop-goal.store in
    let i = c.loop-goal.goal-index in
    let ks = c.args.goals.now in
    let new = c.as_goal.new.work.bank.now in
    record {
      has = c.in-Ok.ensures.has;
      kept = c.in-Ok.ensures.kept;
      count = c.in-Ok.ensures.count ∙ at.count;
      settles = λ f bound late z q left y.
          at.settles f bound late z q left
          (settle_more f s (get_or ks i 0) (drop (i + 1) ks) (drop i ks) (drop_more ks i 0 c.loop-goal-test.true) c.loop-goal.work.ticks.now.left c.as_goal.new.work.ticks.now.left (store_of new c.as_goal.new.store) (c.in-Ok.ensures.answer f bound) late z q left y);
      same_bank = c.in-Ok.ensures.same_bank ∙ at.same_bank;
      same_ticks = c.in-Ok.ensures.same_ticks ∙ at.same_ticks;
      grows = Grows-trans c.args.work.now.bank.now mid new at.grows c.in-Ok.ensures.grows;
      budget = c.in-Ok.ensures.budget ∙ at.budget;
      counted = omega (arith, c.in-Ok.ensures.counted, at.counted, c.in-Ok.ensures.budget, at.budget);
    }

pub returns-clause-answer : goal.returns-clause-answer
returns-clause-answer g c f bound =
    let mid = c.loop-goal.work.bank.now in
    let s = store_of mid c.loop-goal.store in
    let i = c.loop-goal.goal-index in
    let ks = c.args.goals.now in
    let b = c.loop-goal.work.ticks.now.left in
    c.loop-goal.invariant.settles f bound mid s (Ok tt) b (settle_end f s (drop i ks) b (drop_all i ks c.loop-goal-test.false))
