use Rattle.std.proofs.Common.{◌∙◌, sym, ap, length}
use Rattle.std.proofs.Common.{subst as along}
use Rattle.std.specs.List.{AllByRecursion}
use Rattle.lq_trees.specs.Tree.{value_of}
use Rattle.lq_terms.specs.Changes.{bindings, HasHypothesis}
use Rattle.lq_evars.specs.Places.{store_of}
use Rattle.lq_unify.proofs.HoldLaws.{body_known, given_known, value_if}
use Rattle.lq_unify.proofs.holding.through_value.Goals as goal

pub given_for-requires-clause-context : goal.given_for-requires-clause-context
given_for-requires-clause-context c = along (AllByRecursion (HasHypothesis c.args.bank.now)) (sym c.hypotheses.ensures) c.requires.value.context

pub given_for-requires-clause-terms : goal.given_for-requires-clause-terms
given_for-requires-clause-terms c = c.requires.value.entries

pub given_for-requires-clause-as_many : goal.given_for-requires-clause-as_many
given_for-requires-clause-as_many c = ap length c.hypotheses.ensures ∙ c.requires.value.as_many

pub known_holding-body-requires-clause-has : goal.known_holding-body-requires-clause-has
known_holding-body-requires-clause-has c = c.requires.value.value

pub known_holding-body-requires-clause-held : goal.known_holding-body-requires-clause-held
known_holding-body-requires-clause-held c = c.requires.known.held

pub known_holding-body-requires-clause-known : goal.known_holding-body-requires-clause-known
known_holding-body-requires-clause-known c = body_known c.args.bank.now (store_of c.args.bank.now c.args.store.now) c.args.barred c.requires.kept.values c.args.known.now.entries c.args.term c.requires.known c.args.context.now c.args.value c.args.entries.now c.requires.value

pub of_value-requires-clause-held : goal.of_value-requires-clause-held
of_value-requires-clause-held c = c.requires.known.held

pub of_value-requires-clause-known : goal.of_value-requires-clause-known
of_value-requires-clause-known c =
    given_known c.args.bank.now (store_of c.args.bank.now c.args.store.now) c.args.barred c.requires.kept.values c.args.known.now.entries c.args.term c.requires.known c.args.context.now c.args.value c.args.entries.now c.requires.value c.in_ok-given.given.entries
    (λ x. c.in_ok-given.ensures.are x ∙ ap (λ hs. value_of (bindings c.args.bank.now hs c.args.entries.now) x) c.hypotheses.ensures)

pub returns : goal.returns
returns c =
    value_if c.args.bank.now (store_of c.args.bank.now c.args.store.now) c.args.barred c.requires.kept.values c.args.known.now.entries c.args.term c.requires.known c.args.context.now c.args.value c.args.entries.now c.requires.value c.in_ok-given.given.entries
    (λ x. c.in_ok-given.ensures.are x ∙ ap (λ hs. value_of (bindings c.args.bank.now hs c.args.entries.now) x) c.hypotheses.ensures)
    c.known_holding-body.result.now c.of_value.result c.known_holding-body.ensures c.of_value.ensures.names c.of_value.ensures.told
