use Rattle.lq_evars.proofs.Growing.{context_grown}
use Rattle.lq_typing.proofs.KindLaws.{kept_grown, over_grown, closed_over, closed_within, closed_holds, closed_fitted}
use Rattle.lq_typing.proofs.kinds.definition_kind.Goals as goal

pub rest_kind-requires-clause-kept : goal.rest_kind-requires-clause-kept
rest_kind-requires-clause-kept c = kept_grown c.args.bank.now c.closed.new.bank c.in_ok-rest.ensures.grows c.args.store.now c.requires.store c.requires.kept

pub rest_kind-requires-clause-context : goal.rest_kind-requires-clause-context
rest_kind-requires-clause-context c = (context_grown c.args.bank.now c.closed.new.bank c.in_ok-rest.ensures.grows c.args.context.now c.requires.context).1

pub rest_kind-requires-clause-rest_over : goal.rest_kind-requires-clause-rest_over
rest_kind-requires-clause-rest_over c = closed_over c.args.bank.now c.closed.new.bank c.in_ok-rest.ensures.grows c.args.name c.args.kind c.in_ok-rest.rest c.in_ok-rest.ensures.made c.args.store.now c.requires.store c.requires.kind_over

pub rest_kind-requires-clause-within : goal.rest_kind-requires-clause-within
rest_kind-requires-clause-within c = closed_within c.args.bank.now c.closed.new.bank c.in_ok-rest.ensures.grows c.args.name c.args.kind c.in_ok-rest.rest c.in_ok-rest.ensures.made c.args.store.now c.requires.store c.requires.kind_within

pub rest_kind-requires-clause-holds : goal.rest_kind-requires-clause-holds
rest_kind-requires-clause-holds c = closed_holds c.args.bank.now c.closed.new.bank c.in_ok-rest.ensures.grows c.args.name c.args.kind c.in_ok-rest.rest c.in_ok-rest.ensures.made c.args.store.now c.requires.store c.args.context.now c.requires.context c.requires.holds

pub rest_kind-requires-clause-value_over : goal.rest_kind-requires-clause-value_over
rest_kind-requires-clause-value_over c = over_grown c.args.bank.now c.closed.new.bank c.in_ok-rest.ensures.grows c.args.store.now c.requires.store c.args.value c.requires.value c.requires.value_over

pub returns-clause-answer : goal.returns-clause-answer
returns-clause-answer c = closed_fitted c.args.bank.now c.closed.new.bank c.in_ok-rest.ensures.grows c.args.name c.args.kind c.in_ok-rest.rest c.in_ok-rest.ensures.made c.args.store.now c.requires.store c.args.value c.requires.value c.rest_kind.new.bank c.rest_kind.result c.rest_kind.ensures.answer
