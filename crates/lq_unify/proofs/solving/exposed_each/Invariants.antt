use Rattle.std.proofs.Common.{take}
use Rattle.lq_terms.specs.Terms.{Grows}
use Rattle.lq_evars.specs.Places.{store_of}
use Rattle.lq_unify.specs.Solving.{AreExposed}
use Rattle.lq_unify.proofs.solving.exposed_each.Given as goal

abbrev pub invariant-loop-entry : goal.invariant-loop-entry
invariant-loop-entry l = record {
  grows : Grows l.fn.bank l.bank;
  exposed : AreExposed (store_of l.fn.bank l.store) l.fn.bank l.bank (take l.entry-index l.entries) l.answers.items;
}
