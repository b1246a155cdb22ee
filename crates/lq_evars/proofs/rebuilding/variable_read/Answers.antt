use Rattle.std.proofs.Common.{◌∙◌, sym}
use Rattle.lq_terms.specs.Terms.{tree_of}
use Rattle.lq_evars.proofs.Rebuilt.{made_near, each_has, each_low, open_near}
use Rattle.lq_evars.proofs.ValueRead.{value_has, value_known, body_closed, none_found, context_has, as_many, value_near}
use Rattle.lq_evars.proofs.rebuilding.variable_read.Goals as goal

pub make-requires : goal.make-requires
make-requires c = each_has c.args.bank.now c.args.store.now c.requires.entries.parts c.args.entries c.requires.entries.read

pub known_as-body-requires-clause-has : goal.known_as-body-requires-clause-has
known_as-body-requires-clause-has c = value_has c.args.bank.now c.args.store.now.values c.args.variable c.in-Some.value c.requires.finds.store.values (sym c.value.ensures.place ∙ c.in-Some.is)

pub known_as-body-requires-clause-known : goal.known_as-body-requires-clause-known
known_as-body-requires-clause-known c =
    value_known c.args.bank.now c.args.store.now c.args.known.now.entries c.args.term c.args.variable c.args.entries c.requires.finds c.requires.entries c.in-Some.value (sym c.in-Some.is ∙ c.value.ensures.place)

pub filled_in-requires-clause-closed : goal.filled_in-requires-clause-closed
filled_in-requires-clause-closed c =
    body_closed c.args.bank.now c.args.store.now c.args.known.now.entries c.args.term c.args.variable c.args.entries c.requires.finds c.requires.entries c.in-Some.value (sym c.in-Some.is ∙ c.value.ensures.place)
    c.known_as-body.result c.known_as-body.ensures

pub filled_in-requires-clause-context : goal.filled_in-requires-clause-context
filled_in-requires-clause-context c =
    context_has c.args.bank.now c.args.store.now c.args.known.now.entries c.args.term c.args.variable c.args.entries c.requires.finds c.requires.entries c.context.result.now (λ v q. c.context.ensures.place v q)

pub filled_in-requires-clause-entries : goal.filled_in-requires-clause-entries
filled_in-requires-clause-entries c = each_has c.args.bank.now c.args.store.now c.requires.entries.parts c.args.entries c.requires.entries.read

pub filled_in-requires-clause-low : goal.filled_in-requires-clause-low
filled_in-requires-clause-low c = each_low c.args.bank.now c.args.store.now c.requires.entries.parts c.args.entries c.requires.entries.read

pub filled_in-requires-clause-as_many : goal.filled_in-requires-clause-as_many
filled_in-requires-clause-as_many c =
    as_many c.args.bank.now c.args.store.now c.args.known.now.entries c.args.term c.args.variable c.args.entries c.requires.finds c.requires.entries c.context.result.now (λ v q. c.context.ensures.place v q)

pub returns-in-None-clause-near : goal.returns-in-None-clause-near
returns-in-None-clause-near c =
    made_near c.make.new.self c.make.result _ _ c.make.ensures.made
    (open_near c.args.bank.now c.args.store.now (tree_of c.args.bank.now c.args.term) c.args.variable c.requires.entries.parts c.args.entries c.requires.entries.is
    (none_found c.args.bank.now c.args.store.now c.args.known.now.entries c.args.term c.args.variable c.args.entries c.requires.finds c.requires.entries (sym c.in-None.is ∙ c.value.ensures.place)) c.requires.entries.read)

pub returns-in-Some-clause-near : goal.returns-in-Some-clause-near
returns-in-Some-clause-near c =
    value_near c.args.bank.now c.args.store.now c.args.known.now.entries c.args.term c.args.variable c.args.entries c.requires.finds c.requires.entries c.context.result.now (λ v q. c.context.ensures.place v q)
    c.in-Some.value c.known_as-body.result (sym c.in-Some.is ∙ c.value.ensures.place) c.known_as-body.ensures c.filled_in.new.bank c.filled_in.result c.filled_in.ensures.small c.filled_in.ensures.large
