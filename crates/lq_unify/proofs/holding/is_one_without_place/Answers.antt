use Rattle.std.proofs.Common.{◌∙◌, sym, arith}
use Rattle.lq_unify.specs.Solutions.{places_of}
use Rattle.lq_unify.specs.Holding.{has_no_place}
use Rattle.lq_unify.proofs.HoldLaws.{name_at, first_marked, first_not, none_left}
use Rattle.lq_unify.proofs.holding.is_one_without_place.Goals as goal

pub is_without_place-requires-clause-name : goal.is_without_place-requires-clause-name
is_without_place-requires-clause-name c = name_at c.args.bank.now c.args.names.now c.loop-name.name-index _ c.requires.names c.loop-name-test.true

pub returns-then-is_without_place : goal.returns-then-is_without_place
returns-then-is_without_place c = first_marked c.args.bank.now (has_no_place (places_of c.args.bank.now c.args.places.now.entries)) c.args.names.now c.loop-name.name-index _ c.loop-name-test.true (sym c.is_without_place.ensures ∙ c.if-is_without_place.true) ∙ c.loop-name.invariant

pub loop-name-preserved : goal.loop-name-preserved
loop-name-preserved c = first_not c.args.bank.now (has_no_place (places_of c.args.bank.now c.args.places.now.entries)) c.args.names.now c.loop-name.name-index _ c.loop-name-test.true (sym c.is_without_place.ensures ∙ c.if-is_without_place.false) ∙ c.loop-name.invariant

pub returns : goal.returns
returns c = none_left c.args.bank.now (has_no_place (places_of c.args.bank.now c.args.places.now.entries)) c.args.names.now c.loop-name.name-index (omega (arith, c.loop-name-test.false)) ∙ c.loop-name.invariant
