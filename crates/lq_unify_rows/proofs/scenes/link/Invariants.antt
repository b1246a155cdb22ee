use Rattle.lq_unify_rows.specs.Scenes.{IsScene}
use Rattle.lq_unify_rows.proofs.scenes.link.Given as goal

abbrev pub invariant-loop-variable : goal.invariant-loop-variable
invariant-loop-variable l = IsScene l.bank l.store l.context l.declared
