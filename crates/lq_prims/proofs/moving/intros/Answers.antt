use Rattle.std.proofs.Common.{◌≡◌, ◌∙◌, ◌-◌, ◌∷◌, [], ℕ, refl, ap, arith, Ok, Err}
use Rattle.std.proofs.Common.{subst as along}
use Rattle.lq_terms.specs.Terms.{tree_of}
use Rattle.lq_terms.proofs.Growth.{Grows-refl, Grows-trans}
use Rattle.lq_env.specs.Environments.{env_of}
use Rattle.lq_env.proofs.Grown.{env_of-grown}
use Rattle.lq_evars.specs.Places.{store_of}
use Rattle.lq_tactics.specs.Rows.{Step}
use Rattle.lq_tactics.specs.Primitives.{is_binder, intro_all, most_binders}
use Rattle.lq_solving.specs.Elaboration.{Givens}
use Rattle.lq_prims.specs.Scenes.{context_at, scene_by, scene_in, step_by}
use Rattle.lq_prims.specs.Working.{Does}
use Rattle.lq_prims.proofs.AssumptionLaws.{place_next}
use Rattle.lq_prims.proofs.LaterLaws.{binder_yes}
use Rattle.lq_prims.proofs.IntrosLaws.{moves_by, stays_by, refused_by, goes_then, none_more}
use Rattle.lq_prims.proofs.moving.intros.Goals as goal

pub loop-more-init : goal.loop-more-init
loop-more-init g c = record {
  placed = c.requires.placed;
  goes = λ vs late tell q left y. y;
  same_bank = refl;
  same_ticks = refl;
  grows = Grows-refl c.args.work.now.bank.now;
  budget = refl;
  counted = refl;
}

pub returns-in-None-clause-answer : goal.returns-in-None-clause-answer
returns-in-None-clause-answer g c vs =
    let bank = c.args.work.now.bank.now in
    let mid = c.loop-more.work.bank.now in
    let at = c.loop-more.invariant in
    let s = store_of mid c.loop-more.store in
    let E0 = env_of bank c.args.env.now in
    let E = env_of mid c.args.env.now in
    let same = env_of-grown bank mid at.grows c.args.env.now c.requires.placed.declared.env in
    let k = c.loop-more.at.goal in
    let T = tree_of mid c.loop-more.at.kind in
    let m = c.loop-more.more - 1 in
    let next = place_next c.loop-more.more c.loop-more-test.true in
    let b = c.loop-more.work.ticks.now.left in
    let tell : ℕ → Step = λ j. step_by s (j ∷ []) in
    at.goes vs mid tell (Ok k) b (stays_by E E0 same s k (context_at s k) T vs m c.loop-more.more next mid tell b c.in-None.ensures refl)

pub returns-in-Err-clause-answer : goal.returns-in-Err-clause-answer
returns-in-Err-clause-answer g c vs =
    let bank = c.args.work.now.bank.now in
    let mid = c.loop-more.work.bank.now in
    let at = c.loop-more.invariant in
    let s = store_of mid c.loop-more.store in
    let E0 = env_of bank c.args.env.now in
    let E = env_of mid c.args.env.now in
    let same = env_of-grown bank mid at.grows c.args.env.now c.requires.placed.declared.env in
    let k = c.loop-more.at.goal in
    let T = tree_of mid c.loop-more.at.kind in
    let m = c.loop-more.more - 1 in
    let next = place_next c.loop-more.more c.loop-more-test.true in
    let b = c.loop-more.work.ticks.now.left in
    let new = c.moved.new.work.bank.now in
    let tell : ℕ → Step = λ j. step_by (store_of new c.moved.new.store) (j ∷ []) in
    at.goes vs new tell (Err c.in-Err.fault) c.moved.new.work.ticks.now.left
    (refused_by E E0 same s k (context_at s k) T vs m c.loop-more.more next new c.moved.new.store c.in-Err.fault b c.moved.new.work.ticks.now.left (ap is_binder c.in-Some.ensures.1 ∙ binder_yes mid c.in-Some.field-0) (c.in-Err.ensures.answer vs))

pub loop-more-preserved : goal.loop-more-preserved
loop-more-preserved g c =
    let bank = c.args.work.now.bank.now in
    let mid = c.loop-more.work.bank.now in
    let at = c.loop-more.invariant in
    let s = store_of mid c.loop-more.store in
    let E0 = env_of bank c.args.env.now in
    let E = env_of mid c.args.env.now in
    let same = env_of-grown bank mid at.grows c.args.env.now c.requires.placed.declared.env in
    let k = c.loop-more.at.goal in
    let T = tree_of mid c.loop-more.at.kind in
    let m = c.loop-more.more - 1 in
    let next = place_next c.loop-more.more c.loop-more-test.true in
    let b = c.loop-more.work.ticks.now.left in
    let new = c.moved.new.work.bank.now in
    let f = λ (vs : Givens). λ (n : ℕ). intro_all most_binders (scene_in bank c.args.env.now c.args.store.now c.args.place.goal c.args.place.kind vs n) in
    let s1 = store_of new c.moved.new.store in
    let r = c.in-Ok.next in
    let l = c.moved.new.work.ticks.now.left in
    record {
      placed = c.in-Ok.ensures.placed;
      goes = λ vs. goes_then (f vs) (λ n. intro_all c.loop-more.more (scene_by E0 s k (context_at s k) T vs n)) (λ n. intro_all m (scene_by E0 s1 r.goal (context_at s1 r.goal) (tree_of new r.kind) vs n)) c.args.work.now.ticks.now.left b l (at.goes vs)
          (moves_by E E0 same s k (context_at s k) T vs m c.loop-more.more next new c.moved.new.store r b l (ap is_binder c.in-Some.ensures.1 ∙ binder_yes mid c.in-Some.field-0) (c.in-Ok.ensures.answer vs));
      same_bank = c.in-Ok.ensures.same_bank ∙ at.same_bank;
      same_ticks = c.in-Ok.ensures.same_ticks ∙ at.same_ticks;
      grows = Grows-trans bank mid new at.grows c.in-Ok.ensures.grows;
      budget = c.in-Ok.ensures.budget ∙ at.budget;
      counted = omega (arith, c.in-Ok.ensures.counted, at.counted, c.in-Ok.ensures.budget, at.budget);
    }

pub returns-clause-answer : goal.returns-clause-answer
returns-clause-answer g c vs =
    let bank = c.args.work.now.bank.now in
    let mid = c.loop-more.work.bank.now in
    let s = store_of mid c.loop-more.store in
    let E0 = env_of bank c.args.env.now in
    let k = c.loop-more.at.goal in
    let T = tree_of mid c.loop-more.at.kind in
    let b = c.loop-more.work.ticks.now.left in
    let tell : ℕ → Step = λ j. step_by s (j ∷ []) in
    let none : 0 ≡ c.loop-more.more = omega (arith, c.loop-more-test.false) in
    c.loop-more.invariant.goes vs mid tell (Ok k) b
    (along (λ z. Does mid tell (Ok k) (λ n. intro_all z (scene_by E0 s k (context_at s k) T vs n)) b b) none (none_more E0 s k (context_at s k) T vs mid tell b refl))
