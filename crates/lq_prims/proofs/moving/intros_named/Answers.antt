use Rattle.std.proofs.Common.{◌∙◌, ◌+◌, ◌∷◌, [], ℕ, refl, arith, map, drop, get_or, Ok, Err}
use Rattle.lq_terms.specs.declared.nodes.NameId.{NameId}
use Rattle.lq_terms.specs.Terms.{tree_of, text_of}
use Rattle.lq_terms.proofs.Growth.{Grows-refl, Grows-trans}
use Rattle.lq_env.specs.Environments.{env_of}
use Rattle.lq_env.proofs.Grown.{env_of-grown}
use Rattle.lq_solving.specs.Elaboration.{Givens}
use Rattle.lq_evars.specs.Places.{store_of}
use Rattle.lq_tactics.specs.Rows.{Step}
use Rattle.lq_tactics.specs.Primitives.{intro_each}
use Rattle.lq_prims.specs.Scenes.{context_at, scene_by, scene_in, step_by}
use Rattle.lq_prims.proofs.IntrosLaws.{each_moves, each_refused, each_ends, goes_then, name_has, names_more, names_end}
use Rattle.lq_prims.proofs.moving.intros_named.Goals as goal

pub loop-name-init : goal.loop-name-init
loop-name-init g c = record {
  placed = c.requires.placed;
  goes = λ vs late tell q left y. y;
  same_bank = refl;
  same_ticks = refl;
  grows = Grows-refl c.args.work.now.bank.now;
  budget = refl;
  counted = refl;
}

pub moved-requires-clause-written : goal.moved-requires-clause-written
moved-requires-clause-written g c =
    let d : NameId = record { place = 0 } in
    omega (arith, name_has c.args.work.now.bank.now c.loop-name.work.bank.now c.loop-name.invariant.grows c.args.names.now c.requires.names c.loop-name.name-index d c.loop-name-test.true, c.loop-name.invariant.grows.names)

pub returns-in-Err-clause-answer : goal.returns-in-Err-clause-answer
returns-in-Err-clause-answer g c vs =
    let bank = c.args.work.now.bank.now in
    let mid = c.loop-name.work.bank.now in
    let at = c.loop-name.invariant in
    let s = store_of mid c.loop-name.store in
    let E0 = env_of bank c.args.env.now in
    let E = env_of mid c.args.env.now in
    let same = env_of-grown bank mid at.grows c.args.env.now c.requires.placed.declared.env in
    let k = c.loop-name.at.goal in
    let T = tree_of mid c.loop-name.at.kind in
    let names = c.args.names.now in
    let i = c.loop-name.name-index in
    let d : NameId = record { place = 0 } in
    let x = text_of mid (get_or names i d) in
    let xs = map (text_of bank) (drop (i + 1) names) in
    let ys = map (text_of bank) (drop i names) in
    let next = names_more bank mid at.grows names c.requires.names i d c.loop-name-test.true in
    let b = c.loop-name.work.ticks.now.left in
    let new = c.moved.new.work.bank.now in
    let tell : ℕ → Step = λ j. step_by (store_of new c.moved.new.store) (j ∷ []) in
    at.goes vs new tell (Err c.in-Err.fault) c.moved.new.work.ticks.now.left
    (each_refused E E0 same s k (context_at s k) T vs x xs ys next new c.moved.new.store c.in-Err.fault b c.moved.new.work.ticks.now.left (c.in-Err.ensures.answer vs))

pub loop-name-preserved : goal.loop-name-preserved
loop-name-preserved g c =
    let bank = c.args.work.now.bank.now in
    let mid = c.loop-name.work.bank.now in
    let at = c.loop-name.invariant in
    let s = store_of mid c.loop-name.store in
    let E0 = env_of bank c.args.env.now in
    let E = env_of mid c.args.env.now in
    let same = env_of-grown bank mid at.grows c.args.env.now c.requires.placed.declared.env in
    let k = c.loop-name.at.goal in
    let T = tree_of mid c.loop-name.at.kind in
    let names = c.args.names.now in
    let i = c.loop-name.name-index in
    let d : NameId = record { place = 0 } in
    let x = text_of mid (get_or names i d) in
    let xs = map (text_of bank) (drop (i + 1) names) in
    let ys = map (text_of bank) (drop i names) in
    let next = names_more bank mid at.grows names c.requires.names i d c.loop-name-test.true in
    let b = c.loop-name.work.ticks.now.left in
    let new = c.moved.new.work.bank.now in
    let f = λ (vs : Givens). λ (n : ℕ). intro_each (map (text_of bank) names) (scene_in bank c.args.env.now c.args.store.now c.args.place.goal c.args.place.kind vs n) in
    let s1 = store_of new c.moved.new.store in
    let r = c.in-Ok.next in
    let l = c.moved.new.work.ticks.now.left in
    record {
      placed = c.in-Ok.ensures.placed;
      goes = λ vs. goes_then (f vs) (λ n. intro_each ys (scene_by E0 s k (context_at s k) T vs n)) (λ n. intro_each xs (scene_by E0 s1 r.goal (context_at s1 r.goal) (tree_of new r.kind) vs n)) c.args.work.now.ticks.now.left b l (at.goes vs)
          (each_moves E E0 same s k (context_at s k) T vs x xs ys next new c.moved.new.store r b l (c.in-Ok.ensures.answer vs));
      same_bank = c.in-Ok.ensures.same_bank ∙ at.same_bank;
      same_ticks = c.in-Ok.ensures.same_ticks ∙ at.same_ticks;
      grows = Grows-trans bank mid new at.grows c.in-Ok.ensures.grows;
      budget = c.in-Ok.ensures.budget ∙ at.budget;
      counted = omega (arith, c.in-Ok.ensures.counted, at.counted, c.in-Ok.ensures.budget, at.budget);
    }

pub returns-clause-answer : goal.returns-clause-answer
returns-clause-answer g c vs =
    let bank = c.args.work.now.bank.now in
    let mid = c.loop-name.work.bank.now in
    let s = store_of mid c.loop-name.store in
    let E0 = env_of bank c.args.env.now in
    let k = c.loop-name.at.goal in
    let T = tree_of mid c.loop-name.at.kind in
    let b = c.loop-name.work.ticks.now.left in
    let i = c.loop-name.name-index in
    let d : NameId = record { place = 0 } in
    let tell : ℕ → Step = λ j. step_by s (j ∷ []) in
    c.loop-name.invariant.goes vs mid tell (Ok k) b
    (each_ends E0 s k (context_at s k) T vs (map (text_of bank) (drop i c.args.names.now)) (names_end bank mid c.loop-name.invariant.grows c.args.names.now c.requires.names i d c.loop-name-test.false) mid tell b refl)
