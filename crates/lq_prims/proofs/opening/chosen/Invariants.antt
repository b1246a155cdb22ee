use Rattle.std.proofs.Common.{◌≡◌, ◌+◌, ℕ, length}
use Rattle.std.specs.List.{AllByRecursion}
use Rattle.lq_trees.specs.Tree.{Tree}
use Rattle.lq_terms.specs.Terms.{Grows, tree_of}
use Rattle.lq_terms.specs.Contexts.{context_of}
use Rattle.lq_env.specs.Environments.{env_of}
use Rattle.lq_solving.specs.Stores.{Store as TreeStore}
use Rattle.lq_solving.specs.Elaboration.{Givens}
use Rattle.lq_prims.specs.Opening.{HasOpening, Carries, choose_work, openings_of}
use Rattle.lq_prims.specs.Scenes.{scene_by}
use Rattle.lq_prims.proofs.ChooseLaws.{Chooses}
use Rattle.lq_prims.proofs.opening.chosen.Given as goal

abbrev pub invariant-openings : goal.invariant-openings
invariant-openings g l = record {
  all : AllByRecursion (HasOpening l.work.bank.now l.context) l.left.items;
  carry : AllByRecursion (Carries l.work.bank.now l.context l.wanted) l.left.items;
  chooses : (s : TreeStore) (k : ℕ) (T : Tree) (vs : Givens) → Chooses
      (λ n. choose_work (scene_by (env_of l.fn.work.bank.now l.env) s k (context_of l.fn.work.bank.now l.context) T vs n) (tree_of l.fn.work.bank.now l.wanted) (openings_of l.fn.work.bank.now l.fn.openings.items))
      (λ n. choose_work (scene_by (env_of l.fn.work.bank.now l.env) s k (context_of l.fn.work.bank.now l.context) T vs n) (tree_of l.fn.work.bank.now l.wanted) (openings_of l.work.bank.now l.left.items))
      l.fn.work.ticks.now.left l.work.ticks.now.left;
  same_bank : l.work.bank.ghost_name ≡ l.fn.work.bank.ghost_name;
  same_ticks : l.work.ticks.ghost_name ≡ l.fn.work.ticks.ghost_name;
  grows : Grows l.fn.work.bank.now l.work.bank.now;
  budget : l.work.ticks.now.left + l.work.ticks.now.spent ≡ l.fn.work.ticks.now.left + l.fn.work.ticks.now.spent;
  counted : l.steps + l.fn.work.ticks.now.spent ≡ l.initial.steps + l.work.ticks.now.spent;
}

abbrev pub decreases-openings : goal.decreases-openings
decreases-openings g l = length l.left.items
