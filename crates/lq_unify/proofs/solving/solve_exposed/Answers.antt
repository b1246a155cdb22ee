use Rattle.lq_unify.proofs.UnsolvableLaws.{store_has, store_kept}
use Rattle.lq_terms.proofs.Growth.{Grows-trans}
use Rattle.lq_unify.proofs.GivingLaws.{may_be_given, none_solves, fault_solves, given_is_solved, gives_nothing, gives_if, never_false}
use Rattle.lq_unify.proofs.solving.solve_exposed.Goals as goal

pub give-requires-clause-store : goal.give-requires-clause-store
give-requires-clause-store c = store_has c.args.bank.now c.body_for.new.bank c.body_for.ensures.grows c.args.store.now c.requires.store

pub give-requires-clause-kept : goal.give-requires-clause-kept
give-requires-clause-kept c = store_kept c.args.bank.now c.body_for.new.bank c.body_for.ensures.grows c.args.store.now c.requires.store c.requires.kept

pub give-requires-clause-body : goal.give-requires-clause-body
give-requires-clause-body c = (rw c.in-Some.is at c.in-Ok.ensures.body).0

pub give-requires-clause-value : goal.give-requires-clause-value
give-requires-clause-value c =
    may_be_given c.args.bank.now c.args.store.now c.requires.kept c.args.variable c.args.entries.now c.requires.meant.0 c.requires.meant.1 c.args.term c.requires.term c.body_for.new.bank c.body_for.ensures.grows c.requires.store c.in-Some.body
    (rw c.in-Some.is at c.in-Ok.ensures.body).1

pub returns-in-Some-clause-answer : goal.returns-in-Some-clause-answer
returns-in-Some-clause-answer c = λ E m.
    given_is_solved c.args.bank.now c.args.store.now c.requires.kept c.args.variable c.args.entries.now E m c.args.term c.requires.term c.body_for.new.bank c.body_for.ensures.grows c.requires.store c.in-Some.body
    (rw c.in-Some.is at c.in-Ok.ensures.body).1 c.give.new.bank c.give.new.store c.give.result c.give.ensures.answer

pub returns-in-Some-clause-gives : goal.returns-in-Some-clause-gives
returns-in-Some-clause-gives c = gives_if c.args.bank.now c.body_for.new.bank c.give.new.bank c.body_for.ensures.grows c.args.store.now c.give.new.store c.requires.store c.give.result c.give.ensures.gives

pub returns-in-Some-clause-no : goal.returns-in-Some-clause-no
returns-in-Some-clause-no c = never_false c.give.new.bank c.args.store.now c.give.new.store _ c.give.result c.give.ensures.answer

pub returns-in-Some-clause-grows : goal.returns-in-Some-clause-grows
returns-in-Some-clause-grows c = Grows-trans c.args.bank.now c.body_for.new.bank c.give.new.bank c.body_for.ensures.grows c.give.ensures.grows

pub returns-in-None-clause-answer : goal.returns-in-None-clause-answer
returns-in-None-clause-answer c = λ E m.
    none_solves c.args.bank.now c.args.store.now c.requires.kept c.args.variable c.args.entries.now E m c.args.term c.requires.term c.body_for.new.bank c.args.store.now (rw c.in-None.is at c.in-Ok.ensures.body)

pub returns-in-None-clause-gives : goal.returns-in-None-clause-gives
returns-in-None-clause-gives c = gives_nothing c.args.bank.now c.body_for.new.bank c.body_for.ensures.grows c.args.store.now c.requires.store c.requires.kept

pub returns-in-Err-clause-answer : goal.returns-in-Err-clause-answer
returns-in-Err-clause-answer c = λ E m.
    fault_solves c.args.bank.now c.args.store.now c.requires.kept c.args.variable c.args.entries.now E m c.args.term c.requires.term c.body_for.new.bank c.body_for.new.bank c.args.store.now c.in-Err.fault c.in-Err.ensures.body
