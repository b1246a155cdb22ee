use Rattle.std.proofs.Common.{◌≡◌, take, drop}
use Rattle.lq_terms.specs.Terms.{Grows}
use Rattle.lq_env.specs.Families.{constructors_of}
use Rattle.lq_evars.specs.Places.{store_of}
use Rattle.lq_sessions.specs.Declaring.{fitting_work, terms_of}
use Rattle.lq_declaring.specs.Families.{AreRead}
use Rattle.lq_declaring.proofs.families.each_read.Given as goal

-- those before are read, and what is left is to fit
abbrev pub invariant-loop-constructor : goal.invariant-loop-constructor
invariant-loop-constructor l = record {
  read : AreRead l.bank (store_of l.initial.bank l.store) (constructors_of l.initial.bank (take l.constructor-index l.constructors)) l.read;
  fit : fitting_work (store_of l.initial.bank l.store) (terms_of (constructors_of l.initial.bank l.constructors))
      ≡ fitting_work (store_of l.initial.bank l.store) (terms_of (constructors_of l.initial.bank (drop l.constructor-index l.constructors)));
  grows : Grows l.initial.bank l.bank;
}
