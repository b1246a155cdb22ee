use Rattle.std.proofs.Common.{◌≡◌, ◌≤◌, ◌++◌, length, take}
use Rattle.lq_terms.specs.Terms.{Grows}
use Rattle.lq_env.specs.Families.{family_of, constructors_of}
use Rattle.lq_env.specs.Building.{binders_of}
use Rattle.lq_env.specs.Premises.{IsDraft, premise_binders}
use Rattle.lq_env.proofs.generated.add_premises.Given as goal

abbrev pub invariant-loop-i : goal.invariant-loop-i
invariant-loop-i l = record {
  grown : Grows l.initial.bank l.bank;
  draft : IsDraft l.bank l.draft;
  many : l.i ≤ length l.draft.binders.items;
  binders : binders_of l.bank l.draft.binders.items ≡ binders_of l.initial.bank l.initial.draft.binders.items ++ premise_binders (family_of l.initial.bank l.family) 0 (constructors_of l.initial.bank (take l.i l.constructors));
}
