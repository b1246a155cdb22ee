use Rattle.lq_terms.proofs.Growth.{Grows-trans}
use Rattle.lq_evars.proofs.Growing.{HasStore-grown}
use Rattle.lq_typing.proofs.KindLaws.{kept_grown, product_over, product_within, product_fitted}
use Rattle.lq_typing.proofs.kinds.function_kind.Goals as goal

pub read_kind-requires-clause-kept : goal.read_kind-requires-clause-kept
read_kind-requires-clause-kept c = kept_grown c.args.bank.now c.make.new.self (Grows-trans c.args.bank.now c.closed.new.bank c.make.new.self c.closed.ensures.grows c.make.ensures.grows) c.args.store.now c.requires.store c.requires.kept

pub read_kind-requires-clause-over : goal.read_kind-requires-clause-over
read_kind-requires-clause-over c = product_over c.args.bank.now c.closed.new.bank c.make.new.self c.closed.ensures.grows c.make.ensures.grows c.args.binder c.args.name c.args.domain c.args.kind c.in_ok-rest.rest c.in_ok-product.product c.requires.binder c.requires.domain c.in_ok-rest.ensures.made c.in_ok-product.ensures.made c.args.store.now c.requires.store c.requires.domain_over c.requires.kind_over

pub read_kind-requires-clause-closed : goal.read_kind-requires-clause-closed
read_kind-requires-clause-closed c = product_within c.args.bank.now c.closed.new.bank c.make.new.self c.closed.ensures.grows c.make.ensures.grows c.args.binder c.args.name c.args.domain c.args.kind c.in_ok-rest.rest c.in_ok-product.product c.requires.binder c.requires.domain c.in_ok-rest.ensures.made c.in_ok-product.ensures.made c.args.store.now c.requires.store c.requires.domain_within c.requires.kind_within

pub returns-clause-answer : goal.returns-clause-answer
returns-clause-answer c = product_fitted c.args.bank.now c.closed.new.bank c.make.new.self c.closed.ensures.grows c.make.ensures.grows c.args.binder c.args.name c.args.domain c.args.kind c.in_ok-rest.rest c.in_ok-product.product c.requires.binder c.requires.domain c.in_ok-rest.ensures.made c.in_ok-product.ensures.made c.args.store.now c.requires.store c.read_kind.new.bank c.read_kind.result c.read_kind.ensures.answer

pub read_kind-requires-clause-store : goal.read_kind-requires-clause-store
read_kind-requires-clause-store c = HasStore-grown c.args.bank.now c.make.new.self (Grows-trans c.args.bank.now c.closed.new.bank c.make.new.self c.closed.ensures.grows c.make.ensures.grows) c.args.store.now c.requires.store
