use Rattle.lq_terms.specs.Terms.{tree_of}
use Rattle.lq_terms.proofs.Growth.{Grows-trans, has-grown}
use Rattle.lq_evars.specs.Places.{store_of}
use Rattle.lq_unify.specs.declared.faults.UnifyFault.{UnifyFault}
use Rattle.lq_unify.proofs.UnsolvableLaws.{store_has, store_kept, of_store_grown}
use Rattle.lq_unify.proofs.GivingLaws.{large_is, deep_is, many_grown, body_made, body_before, limit_grown}
use Rattle.lq_unify.proofs.solving.body_for.Goals as goal

pub turned_round-requires-clause-store : goal.turned_round-requires-clause-store
turned_round-requires-clause-store c = store_has c.args.bank.now c.read.new.bank c.read.ensures.grows c.args.store.now c.requires.store

pub turned_round-requires-clause-entries : goal.turned_round-requires-clause-entries
turned_round-requires-clause-entries c = has-grown c.args.bank.now c.read.new.bank c.args.entries.now c.read.ensures.grows c.requires.entries

pub turned_round-requires-clause-as_many : goal.turned_round-requires-clause-as_many
turned_round-requires-clause-as_many c = many_grown c.args.bank.now c.read.new.bank c.read.ensures.grows c.args.store.now c.requires.store c.args.variable _ c.requires.as_many

pub turned_round-requires-clause-term : goal.turned_round-requires-clause-term
turned_round-requires-clause-term c = c.in-Ok.ensures.answer.0

pub returns-in_ok-body-in-Ok-clause-body : goal.returns-in_ok-body-in-Ok-clause-body
returns-in_ok-body-in-Ok-clause-body c =
    body_made c.args.bank.now c.read.new.bank c.read.ensures.grows c.args.store.now c.requires.store c.turned_round.new.bank c.args.variable c.args.entries.now c.args.term c.in-Ok.read _ c.in_ok-body-in-Ok.body c.requires.entries c.in-Ok.ensures.answer.1
    c.in_ok-body-in-Ok.ensures.is c.in_ok-body-in-Ok.ensures.has

pub returns-in_ok-body-in-Ok-clause-grows : goal.returns-in_ok-body-in-Ok-clause-grows
returns-in_ok-body-in-Ok-clause-grows c = Grows-trans c.args.bank.now c.read.new.bank c.turned_round.new.bank c.read.ensures.grows c.in_ok-body-in-Ok.ensures.grows

pub without_body-requires-clause-store : goal.without_body-requires-clause-store
without_body-requires-clause-store c = store_has c.args.bank.now c.read.new.bank c.read.ensures.grows c.args.store.now c.requires.store

pub without_body-requires-clause-kept : goal.without_body-requires-clause-kept
without_body-requires-clause-kept c = store_kept c.args.bank.now c.read.new.bank c.read.ensures.grows c.args.store.now c.requires.store c.requires.kept

pub without_body-requires-clause-entries : goal.without_body-requires-clause-entries
without_body-requires-clause-entries c = has-grown c.args.bank.now c.read.new.bank c.args.entries.now c.read.ensures.grows c.requires.entries

pub without_body-requires-clause-as_many : goal.without_body-requires-clause-as_many
without_body-requires-clause-as_many c = many_grown c.args.bank.now c.read.new.bank c.read.ensures.grows c.args.store.now c.requires.store c.args.variable _ c.requires.as_many

pub without_body-requires-clause-term : goal.without_body-requires-clause-term
without_body-requires-clause-term c = of_store_grown c.args.bank.now c.read.new.bank c.read.ensures.grows c.args.store.now c.requires.store c.args.term c.requires.term

pub without_body-requires-clause-fault : goal.without_body-requires-clause-fault
without_body-requires-clause-fault c =
    limit_grown c.args.bank.now c.read.new.bank c.read.ensures.grows c.args.store.now c.requires.store c.args.term UnifyFault.TooLarge c.requires.term.has
    (large_is (store_of c.args.bank.now c.args.store.now) (tree_of c.args.bank.now c.args.term) (rw c.in-Err-TooLarge.field-0-is at c.in-Err-TooLarge.ensures.answer))

pub returns-in-Err-TooLarge-clause-body : goal.returns-in-Err-TooLarge-clause-body
returns-in-Err-TooLarge-clause-body c =
    body_before c.args.bank.now c.read.new.bank c.read.ensures.grows c.args.store.now c.requires.store c.without_body.new.bank c.args.variable c.args.entries.now c.args.term c.without_body.result c.requires.entries c.requires.term.has c.without_body.ensures.body

pub without_body-requires-in-Err-TooDeep-clause-store : goal.without_body-requires-in-Err-TooDeep-clause-store
without_body-requires-in-Err-TooDeep-clause-store c = store_has c.args.bank.now c.read.new.bank c.read.ensures.grows c.args.store.now c.requires.store

pub without_body-requires-in-Err-TooDeep-clause-kept : goal.without_body-requires-in-Err-TooDeep-clause-kept
without_body-requires-in-Err-TooDeep-clause-kept c = store_kept c.args.bank.now c.read.new.bank c.read.ensures.grows c.args.store.now c.requires.store c.requires.kept

pub without_body-requires-in-Err-TooDeep-clause-entries : goal.without_body-requires-in-Err-TooDeep-clause-entries
without_body-requires-in-Err-TooDeep-clause-entries c = has-grown c.args.bank.now c.read.new.bank c.args.entries.now c.read.ensures.grows c.requires.entries

pub without_body-requires-in-Err-TooDeep-clause-as_many : goal.without_body-requires-in-Err-TooDeep-clause-as_many
without_body-requires-in-Err-TooDeep-clause-as_many c = many_grown c.args.bank.now c.read.new.bank c.read.ensures.grows c.args.store.now c.requires.store c.args.variable _ c.requires.as_many

pub without_body-requires-in-Err-TooDeep-clause-term : goal.without_body-requires-in-Err-TooDeep-clause-term
without_body-requires-in-Err-TooDeep-clause-term c = of_store_grown c.args.bank.now c.read.new.bank c.read.ensures.grows c.args.store.now c.requires.store c.args.term c.requires.term

pub without_body-requires-in-Err-TooDeep-clause-fault : goal.without_body-requires-in-Err-TooDeep-clause-fault
without_body-requires-in-Err-TooDeep-clause-fault c =
    limit_grown c.args.bank.now c.read.new.bank c.read.ensures.grows c.args.store.now c.requires.store c.args.term UnifyFault.TooDeep c.requires.term.has
    (deep_is (store_of c.args.bank.now c.args.store.now) (tree_of c.args.bank.now c.args.term) (rw c.in-Err-TooDeep.field-0-is at c.in-Err-TooDeep.ensures.answer))

pub returns-in-Err-TooDeep-clause-body : goal.returns-in-Err-TooDeep-clause-body
returns-in-Err-TooDeep-clause-body c =
    body_before c.args.bank.now c.read.new.bank c.read.ensures.grows c.args.store.now c.requires.store c.without_body-in-Err-TooDeep.new.bank c.args.variable c.args.entries.now c.args.term c.without_body-in-Err-TooDeep.result c.requires.entries c.requires.term.has c.without_body-in-Err-TooDeep.ensures.body
