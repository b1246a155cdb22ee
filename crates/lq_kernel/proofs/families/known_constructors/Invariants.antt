use Rattle.std.proofs.Common.{◌≡◌, drop, map}
use Rattle.lq_terms.specs.Contexts.{context_of}
use Rattle.lq_calculus.specs.Checking.{known}
use Rattle.lq_env.specs.Families.{constructors_of}
use Rattle.lq_kernel.proofs.families.known_constructors.Given as goal

-- the look goes on behind those so far
abbrev pub invariant-loop-constructor : goal.invariant-loop-constructor
invariant-loop-constructor l = record {
  items : l.constructor-items ≡ l.family.constructors;
  so_far : known (context_of l.bank l.family.parameters) (map (λ c. c.1) (constructors_of l.bank l.constructor-items)) ≡ known (context_of l.bank l.family.parameters) (map (λ c. c.1) (constructors_of l.bank (drop l.constructor-index l.constructor-items)));
}
