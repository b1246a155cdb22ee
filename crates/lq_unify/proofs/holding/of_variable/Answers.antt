use Rattle.std.proofs.Common.{sym}
use Rattle.lq_evars.specs.Places.{store_of}
use Rattle.lq_unify.proofs.ExposeSteps.{none_kept}
use Rattle.lq_unify.proofs.HoldLaws.{entries_known, value_kept, open_if}
use Rattle.lq_unify.proofs.holding.of_variable.Goals as goal

pub of_parts-requires-clause-held : goal.of_parts-requires-clause-held
of_parts-requires-clause-held c = c.requires.known.held

pub of_parts-requires-clause-known : goal.of_parts-requires-clause-known
of_parts-requires-clause-known c = entries_known c.args.bank.now (store_of c.args.bank.now c.args.store.now) c.args.barred c.requires.kept.values c.args.known.now.entries c.args.term c.requires.known c.args.variable c.args.entries.now c.requires.is

pub returns-in_default : goal.returns-in_default
returns-in_default c =
    open_if c.args.bank.now (store_of c.args.bank.now c.args.store.now) c.args.barred c.requires.kept.values c.args.known.now.entries c.args.term c.requires.known c.of_parts.result c.of_parts.ensures.names c.args.variable c.args.entries.now c.requires.is
    (none_kept c.args.bank.now c.args.store.now c.requires.kept c.args.variable (c.values_stand.ensures.told c.args.bank.now c.requires.kept c.args.variable) (sym c.in_default.ensures))
    c.of_parts.ensures.told

pub through_value-requires-clause-value : goal.through_value-requires-clause-value
through_value-requires-clause-value c =
    let stand = c.values_stand.ensures.stand c.args.bank.now c.requires.store c.requires.kept c.args.variable (c.in-Some.context.now, c.in-Some.value) (sym c.in-Some.ensures) in
    value_kept c.args.bank.now c.args.store.now c.requires.kept c.args.term c.args.variable c.args.entries.now (c.values_stand.ensures.told c.args.bank.now c.requires.kept c.args.variable) c.in-Some.context.now c.in-Some.value (sym c.in-Some.ensures)
    stand.has stand.context c.requires.is c.requires.known.term.over c.requires.entries
