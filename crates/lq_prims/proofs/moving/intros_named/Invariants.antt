use Rattle.std.proofs.Common.{◌≡◌, ◌+◌, map, drop}
use Rattle.lq_terms.specs.Terms.{Grows, tree_of, text_of}
use Rattle.lq_env.specs.Environments.{env_of}
use Rattle.lq_solving.specs.Elaboration.{Givens}
use Rattle.lq_evars.specs.Places.{store_of}
use Rattle.lq_tactics.specs.Primitives.{intro_each}
use Rattle.lq_prims.specs.Scenes.{IsPlaced, context_at, scene_by, scene_in}
use Rattle.lq_prims.proofs.IntrosLaws.{Goes}
use Rattle.lq_prims.proofs.moving.intros_named.Given as goal

abbrev pub invariant-loop-name : goal.invariant-loop-name
invariant-loop-name g l = record {
  placed : IsPlaced l.work.bank.now l.env l.store l.at.goal l.at.kind;
  goes : (vs : Givens) → Goes (λ n. intro_each (map (text_of l.fn.work.bank.now) l.names) (scene_in l.fn.work.bank.now l.env l.fn.store l.fn.place.goal l.fn.place.kind vs n))
      (λ n. intro_each (map (text_of l.fn.work.bank.now) (drop l.name-index l.names)) (scene_by (env_of l.fn.work.bank.now l.env) (store_of l.work.bank.now l.store) l.at.goal (context_at (store_of l.work.bank.now l.store) l.at.goal) (tree_of l.work.bank.now l.at.kind) vs n))
      l.fn.work.ticks.now.left l.work.ticks.now.left;
  same_bank : l.work.bank.ghost_name ≡ l.fn.work.bank.ghost_name;
  same_ticks : l.work.ticks.ghost_name ≡ l.fn.work.ticks.ghost_name;
  grows : Grows l.fn.work.bank.now l.work.bank.now;
  budget : l.work.ticks.now.left + l.work.ticks.now.spent ≡ l.fn.work.ticks.now.left + l.fn.work.ticks.now.spent;
  counted : l.steps + l.fn.work.ticks.now.spent ≡ l.initial.steps + l.work.ticks.now.spent;
}
