use Rattle.std.proofs.Common.{arith}
use Rattle.lq_terms.specs.Contexts.{context_of}
use Rattle.lq_terms.specs.Terms.{tree_of}
use Rattle.lq_solving.specs.Unification.{unify}
use Rattle.lq_evars.specs.Places.{store_of}
use Rattle.lq_unify.proofs.CallLaws.{work_begins, pair_begins, asked_begins, yes_sound}
use Rattle.lq_unify.proofs.unifying.started.Goals as goal

pub run-requires-clause-work : goal.run-requires-clause-work
run-requires-clause-work g c = work_begins c.args.work.now.bank.now c.args.store.now c.args.context.now c.in_ok-own.own c.new-frames.result c.in_ok-own.ensures c.new-frames.ensures c.requires.work

pub run-requires-clause-pair : goal.run-requires-clause-pair
run-requires-clause-pair g c = pair_begins c.args.work.now.bank.now c.args.store.now c.args.context.now c.in_ok-own.own c.args.pair c.in_ok-own.ensures c.requires.pair

pub returns-clause-answer : goal.returns-clause-answer
returns-clause-answer g c = λ r tells plain.
    c.run.ensures.answer r (λ n. unify r n (context_of c.args.work.now.bank.now c.args.context.now) (store_of c.args.work.now.bank.now c.args.store.now) (tree_of c.args.work.now.bank.now c.args.pair.left) (tree_of c.args.work.now.bank.now c.args.pair.right))
    c.args.work.now.ticks.now.left tells plain (asked_begins c.args.work.now.bank.now c.args.store.now r c.args.context.now c.in_ok-own.own c.args.pair c.args.work.now.ticks.now.left c.in_ok-own.ensures)

pub returns-clause-sound : goal.returns-clause-sound
returns-clause-sound g c = λ r tells plain.
    yes_sound r plain c.args.work.now.bank.now c.run.new.work.bank.now c.args.store.now c.run.new.store c.args.context.now c.args.pair c.args.work.now.ticks.now.left c.run.new.work.ticks.now.left
    (omega (arith, c.requires.count, c.ranges.count.fits)) (omega (arith, c.args.work.now.ticks.now.bounded)) c.requires.work.kept c.requires.pair c.run.result
    (c.run.ensures.answer r (λ n. unify r n (context_of c.args.work.now.bank.now c.args.context.now) (store_of c.args.work.now.bank.now c.args.store.now) (tree_of c.args.work.now.bank.now c.args.pair.left) (tree_of c.args.work.now.bank.now c.args.pair.right))
    c.args.work.now.ticks.now.left tells plain (asked_begins c.args.work.now.bank.now c.args.store.now r c.args.context.now c.in_ok-own.own c.args.pair c.args.work.now.ticks.now.left c.in_ok-own.ensures))
