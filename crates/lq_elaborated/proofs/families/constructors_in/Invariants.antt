use Rattle.std.proofs.Common.{◌≡◌, ◌+◌}
use Rattle.lq_terms.specs.Contexts.{context_of}
use Rattle.lq_terms.specs.Terms.{Grows}
use Rattle.lq_env.specs.Environments.{env_of}
use Rattle.lq_evars.specs.Places.{store_of}
use Rattle.lq_elaborated.proofs.MakingLaws.{AreSoFar}
use Rattle.lq_elaborated.proofs.families.constructors_in.Given as goal

-- those before are elaborated
abbrev pub invariant-loop-constructor : goal.invariant-loop-constructor
invariant-loop-constructor g l = record {
  made : AreSoFar l.work.bank.now (env_of l.initial.work.bank.now l.env) (context_of l.initial.work.bank.now l.context) (store_of l.initial.work.bank.now l.initial.store) l.store l.constructors l.constructor-index l.initial.work.ticks.now.left l.made l.work.ticks.now.left;
  same_bank : l.work.bank.ghost_name ≡ l.initial.work.bank.ghost_name;
  same_ticks : l.work.ticks.ghost_name ≡ l.initial.work.ticks.ghost_name;
  grows : Grows l.initial.work.bank.now l.work.bank.now;
  budget : l.work.ticks.now.left + l.work.ticks.now.spent ≡ l.initial.work.ticks.now.left + l.initial.work.ticks.now.spent;
  counted : l.steps + l.initial.work.ticks.now.spent ≡ l.initial.steps + l.work.ticks.now.spent;
}
