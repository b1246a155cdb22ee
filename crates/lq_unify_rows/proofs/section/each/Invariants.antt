use Rattle.lq_unify_rows.specs.Scenes.{IsScene}
use Rattle.lq_unify_rows.proofs.section.each.Given as goal

abbrev pub invariant-loop-line : goal.invariant-loop-line
invariant-loop-line l = IsScene l.bank l.store l.context l.declared
