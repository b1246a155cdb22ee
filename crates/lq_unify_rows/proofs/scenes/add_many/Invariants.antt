use Rattle.lq_unify_rows.specs.Scenes.{IsScene}
use Rattle.lq_unify_rows.proofs.scenes.add_many.Given as goal

abbrev pub invariant-loop : goal.invariant-loop
invariant-loop l = IsScene l.bank l.store l.context l.declared
