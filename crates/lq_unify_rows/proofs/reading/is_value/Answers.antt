use Rattle.std.proofs.Common.{sym, ◌∙◌}
use Rattle.lq_evars.proofs.ValueRead.{value_has}
use Rattle.lq_unify_rows.proofs.reading.is_value.Goals as goal

pub same-requires-clause-left : goal.same-requires-clause-left
same-requires-clause-left c =
    value_has c.args.bank.now c.args.store.now.values c.args.variable c.in-Some.value c.requires.store.values (sym c.value.ensures.place ∙ c.in-Some.is)
