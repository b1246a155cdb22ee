use Rattle.std.proofs.Common.{◌≡◌, ◌+◌}
use Rattle.lq_terms.specs.Terms.{Grows}
use Rattle.lq_env.specs.Families.{family_of}
use Rattle.lq_env.specs.Environments.{env_of}
use Rattle.lq_kernel.proofs.ConstructorLaws.{SoFar}
use Rattle.lq_kernel.proofs.families.check_constructors.Given as goal

-- the work goes on behind the constructors so far
abbrev pub invariant-loop-index : goal.invariant-loop-index
invariant-loop-index g l = record {
  items : l.constructors ≡ l.family.constructors;
  grows : Grows l.initial.work.bank.now l.work.bank.now;
  so_far : SoFar (env_of l.initial.work.bank.now l.env) (family_of l.initial.work.bank.now l.family) l.initial.work.bank.now l.constructors l.index l.initial.work.ticks.now.left l.work.ticks.now.left l.small;
  same_bank : l.work.bank.ghost_name ≡ l.initial.work.bank.ghost_name;
  same_ticks : l.work.ticks.ghost_name ≡ l.initial.work.ticks.ghost_name;
  budget : l.work.ticks.now.left + l.work.ticks.now.spent ≡ l.initial.work.ticks.now.left + l.initial.work.ticks.now.spent;
  counted : l.steps + l.initial.work.ticks.now.spent ≡ l.initial.steps + l.work.ticks.now.spent;
}
