use Rattle.std.proofs.Common.{◌≡◌, ◌+◌, ◌≤◌, ℕ, length, reverse, take}
use Rattle.lq_terms.specs.Contexts.{context_of}
use Rattle.lq_terms.specs.Terms.{tree_of}
use Rattle.lq_env.specs.Environments.{env_of}
use Rattle.lq_solving.specs.Elaboration.{Givens}
use Rattle.lq_evars.specs.Places.{store_of}
use Rattle.lq_prims.proofs.AssumptionLaws.{Follows}
use Rattle.lq_prims.proofs.assumption.fitting.Given as goal

abbrev pub invariant-loop-place : goal.invariant-loop-place
invariant-loop-place g l = record {
  within : l.place ≤ length l.hypotheses;
  unchanged : l.work.bank.now ≡ l.fn.work.bank.now;
  same_bank : l.work.bank.ghost_name ≡ l.fn.work.bank.ghost_name;
  same_ticks : l.work.ticks.ghost_name ≡ l.fn.work.ticks.ghost_name;
  follows : (k : ℕ) (vs : Givens) → Follows (env_of l.fn.work.bank.now l.env) (store_of l.fn.work.bank.now l.store) k (context_of l.fn.work.bank.now l.context) (tree_of l.fn.work.bank.now l.wanted) vs
      (reverse (context_of l.fn.work.bank.now l.context)) (reverse (context_of l.fn.work.bank.now (take l.place l.context))) l.fn.work.ticks.now.left l.work.ticks.now.left;
  budget : l.work.ticks.now.left + l.work.ticks.now.spent ≡ l.fn.work.ticks.now.left + l.fn.work.ticks.now.spent;
  counted : l.steps + l.fn.work.ticks.now.spent ≡ l.initial.steps + l.work.ticks.now.spent;
}
