use Rattle.std.proofs.Common.{◌≡◌, [], length, take}
use Rattle.std.specs.List.{AllByRecursion}
use Rattle.lq_terms.specs.Terms.{Grows}
use Rattle.lq_terms.specs.Contexts.{context_of}
use Rattle.lq_env.specs.Telescopes.{binders_behind}
use Rattle.lq_env.specs.Building.{HasBinder, binders_of}
use Rattle.lq_env.proofs.telescopes.close_kinds.Given as goal

abbrev pub invariant-loop-i : goal.invariant-loop-i
invariant-loop-i l = record {
  many : length l.variables ≡ length l.context;
  grown : Grows l.initial.bank l.bank;
  has : AllByRecursion (HasBinder l.bank) l.binders.items;
  closed : binders_of l.bank l.binders.items ≡ binders_behind [] (context_of l.initial.bank (take l.i l.context));
}
