use Rattle.std.proofs.Common.{◌≡◌, ◌+◌, ℕ, length, drop}
use Rattle.lq_terms.specs.Terms.{Grows}
use Rattle.lq_solving.specs.Kept.{IsStore}
use Rattle.lq_evars.specs.Places.{HasStore, store_of}
use Rattle.lq_tactics.specs.Rows.{Scene, as_goals}
use Rattle.lq_prims.proofs.SettleLaws.{Settles}
use Rattle.lq_prims.proofs.settling.as_goals.Given as goal

abbrev pub invariant-loop-goal : goal.invariant-loop-goal
invariant-loop-goal g l = record {
  has : HasStore l.work.bank.now l.store;
  kept : IsStore (store_of l.work.bank.now l.store);
  count : length l.store.variables ≡ length l.fn.store.variables;
  settles : (c : ℕ → Scene) → ((n : ℕ) → (c n).bound ≡ n) → Settles (λ n. as_goals (c n) (store_of l.fn.work.bank.now l.fn.store) l.goals)
      (λ n. as_goals (c n) (store_of l.work.bank.now l.store) (drop l.goal-index l.goals)) l.fn.work.ticks.now.left l.work.ticks.now.left;
  same_bank : l.work.bank.ghost_name ≡ l.fn.work.bank.ghost_name;
  same_ticks : l.work.ticks.ghost_name ≡ l.fn.work.ticks.ghost_name;
  grows : Grows l.fn.work.bank.now l.work.bank.now;
  budget : l.work.ticks.now.left + l.work.ticks.now.spent ≡ l.fn.work.ticks.now.left + l.fn.work.ticks.now.spent;
  counted : l.steps + l.fn.work.ticks.now.spent ≡ l.initial.steps + l.work.ticks.now.spent;
}
