use Rattle.lq_terms.specs.Terms.{Grows}
use Rattle.lq_goals_rows.specs.Looks.{HasPlain}
use Rattle.lq_goals_rows.proofs.giving.deep.Given as goal

abbrev pub invariant-loop : goal.invariant-loop
invariant-loop l = record {
  is : HasPlain l.bank l.whole;
  grows : Grows l.initial.bank l.bank;
}
