use Rattle.lq_terms.specs.Terms.{Grows}
use Rattle.lq_unify_rows.specs.Scenes.{HasWanted}
use Rattle.lq_unify_rows.proofs.asking.wanted_of.Given as goal

abbrev pub invariant-loop-text : goal.invariant-loop-text
invariant-loop-text l = record { grows : Grows l.initial.bank l.bank; wanted : HasWanted l.bank l.wanted.items }
