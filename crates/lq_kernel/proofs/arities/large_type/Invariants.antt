use Rattle.lq_terms.specs.Terms.{IsTerm, Grows, text_of}
use Rattle.lq_kernel.specs.Declaring.{doubled}
use Rattle.lq_kernel.proofs.arities.large_type.Given as goal

-- the type was doubled so often
abbrev pub invariant-loop-i : goal.invariant-loop-i
invariant-loop-i l = record {
  grows : Grows l.initial.bank l.bank;
  made : IsTerm l.bank l.kind (doubled (text_of l.initial.bank l.binder) l.i);
}
