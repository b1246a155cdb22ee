use Rattle.std.specs.Prelude.{take}
use Rattle.lq_terms.specs.Terms.{Grows}
use Rattle.lq_elaborated.specs.Naming.{AreNamed}
use Rattle.lq_elaborated.proofs.naming.named.Given as goal

-- those before are named
abbrev pub invariant-loop-constructor : goal.invariant-loop-constructor
invariant-loop-constructor l = record { made : AreNamed l.bank l.made (take l.constructor-index l.constructors); grows : Grows l.initial.bank l.bank }
