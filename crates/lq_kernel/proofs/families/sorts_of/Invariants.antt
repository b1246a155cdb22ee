use Rattle.std.proofs.Common.{◌≡◌, ◌+◌, [], take, drop}
use Rattle.lq_terms.specs.Terms.{Grows}
use Rattle.lq_terms.specs.Contexts.{context_of}
use Rattle.lq_calculus.specs.Checking.{sorts_of}
use Rattle.lq_env.specs.Environments.{env_of}
use Rattle.lq_kernel.proofs.Goes.{Goes}
use Rattle.lq_kernel.proofs.families.sorts_of.Given as goal

-- the work goes on behind the types so far
abbrev pub invariant-loop-hypothesis : goal.invariant-loop-hypothesis
invariant-loop-hypothesis g l = record {
  items : l.hypothesis-items ≡ l.telescope;
  before : l.before ≡ take l.hypothesis-index l.hypothesis-items;
  grows : Grows l.initial.work.bank.now l.work.bank.now;
  so_far :
      Goes (Unit {0}) (λ n. sorts_of (env_of l.initial.work.bank.now l.env) n [] (context_of l.initial.work.bank.now l.hypothesis-items)) l.initial.work.ticks.now.left
      (λ n. sorts_of (env_of l.initial.work.bank.now l.env) n (context_of l.initial.work.bank.now (take l.hypothesis-index l.hypothesis-items)) (context_of l.initial.work.bank.now (drop l.hypothesis-index l.hypothesis-items))) l.work.ticks.now.left;
  same_bank : l.work.bank.ghost_name ≡ l.initial.work.bank.ghost_name;
  same_ticks : l.work.ticks.ghost_name ≡ l.initial.work.ticks.ghost_name;
  budget : l.work.ticks.now.left + l.work.ticks.now.spent ≡ l.initial.work.ticks.now.left + l.initial.work.ticks.now.spent;
  counted : l.steps + l.initial.work.ticks.now.spent ≡ l.initial.steps + l.work.ticks.now.spent;
}
