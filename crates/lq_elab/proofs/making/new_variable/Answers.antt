use Rattle.std.proofs.Common.{sym}
use Rattle.std.proofs.Common.{subst as along}
use Rattle.lq_terms.specs.Terms.{AreTerms}
use Rattle.lq_terms.specs.Contexts.{context_of}
use Rattle.lq_solving.specs.Stores.{own_instance}
use Rattle.lq_terms.proofs.Tellings.{HasContext-grown, context_of-grown}
use Rattle.lq_evars.proofs.Growing.{HasStore-grown}
use Rattle.lq_elab.proofs.MakingLaws.{own_later, made_answer, made_store, made_stands}
use Rattle.lq_elab.proofs.making.new_variable.Goals as goal

pub added-requires-clause-store : goal.added-requires-clause-store
added-requires-clause-store c = HasStore-grown c.args.bank.now c.own_entries.new.bank c.in_ok-entries.ensures.grows c.args.store.now c.requires.store

pub added-requires-clause-context : goal.added-requires-clause-context
added-requires-clause-context c = HasContext-grown c.args.bank.now c.own_entries.new.bank c.in_ok-entries.ensures.grows c.args.context.now c.requires.context

pub added-requires-clause-entries : goal.added-requires-clause-entries
added-requires-clause-entries c = along (λ z. AreTerms c.own_entries.new.bank c.in_ok-entries.entries.items (own_instance z)) (sym (context_of-grown c.args.bank.now c.own_entries.new.bank c.in_ok-entries.ensures.grows c.args.context.now c.requires.context)) (along (λ k. AreTerms c.own_entries.new.bank c.in_ok-entries.entries.items (own_instance (context_of c.args.bank.now k))) c.hypotheses.ensures c.in_ok-entries.ensures.are)

pub added-requires-clause-own : goal.added-requires-clause-own
added-requires-clause-own c = own_later c.args.bank.now c.own_entries.new.bank c.in_ok-entries.ensures.grows c.names_apart.ensures c.args.name c.requires.own

pub returns-clause-answer : goal.returns-clause-answer
returns-clause-answer c = made_answer c.args.bank.now c.own_entries.new.bank c.added.new.bank c.in_ok-entries.ensures.grows c.args.store.now c.added.new.store c.args.context.now c.args.kind c.args.name c.requires.store c.requires.context c.requires.kind c.requires.own c.added.result c.added.ensures.answer

pub returns-clause-grown : goal.returns-clause-grown
returns-clause-grown c = made_store c.args.bank.now c.own_entries.new.bank c.added.new.bank c.in_ok-entries.ensures.grows c.args.store.now c.added.new.store c.args.context.now c.args.kind c.args.name c.requires.store c.requires.context c.requires.kind c.requires.own c.added.result c.added.ensures.answer c.requires.kept c.requires.hypotheses c.requires.stands c.requires.new

pub returns-clause-term_stands : goal.returns-clause-term_stands
returns-clause-term_stands c = made_stands c.args.bank.now c.own_entries.new.bank c.added.new.bank c.in_ok-entries.ensures.grows c.args.store.now c.added.new.store c.args.context.now c.args.kind c.args.name c.requires.store c.requires.context c.requires.kind c.requires.own c.added.result c.added.ensures.answer c.requires.kept c.requires.hypotheses c.requires.stands c.requires.new
