use Rattle.lq_terms.specs.Terms.{Grows}
use Rattle.lq_evars_rows.specs.Looks.{HasSimple}
use Rattle.lq_evars_rows.proofs.rows.nested.Given as goal

abbrev pub invariant-loop : goal.invariant-loop
invariant-loop l = record {
  simple : HasSimple l.bank l.fn.variable l.whole;
  grows : Grows l.initial.bank l.bank;
}
