use Rattle.lq_terms.proofs.Growth.{Grows-trans}
use Rattle.lq_unify.proofs.FrameLaws.{work_grown}
use Rattle.lq_unify.proofs.ExposedSteps.{exposed_two, exposed_stands, exposed_left, exposed_right, exposed_rowed, left_of_store, right_of_store, kept_grown, of_store_grown}
use Rattle.lq_unify.proofs.turns.rows.Goals as goal

pub exposed-requires-clause-term : goal.exposed-requires-clause-term
exposed-requires-clause-term c = left_of_store c.args.bank.now c.args.store.now c.args.context.now c.args.pair c.requires.pair

pub exposed-requires-2-clause-kept : goal.exposed-requires-2-clause-kept
exposed-requires-2-clause-kept c = kept_grown c.args.bank.now c.exposed.new.bank c.in_ok-left.ensures.grows c.args.store.now c.requires.work.store c.requires.work.kept

pub exposed-requires-2-clause-term : goal.exposed-requires-2-clause-term
exposed-requires-2-clause-term c = of_store_grown c.args.bank.now c.exposed.new.bank c.in_ok-left.ensures.grows c.args.store.now c.requires.work.store c.args.pair.right (right_of_store c.args.bank.now c.args.store.now c.args.context.now c.args.pair c.requires.pair)

pub open_rows-requires-clause-work : goal.open_rows-requires-clause-work
open_rows-requires-clause-work c = work_grown c.args.bank.now c.exposed-2.new.bank (Grows-trans c.args.bank.now c.exposed.new.bank c.exposed-2.new.bank c.in_ok-left.ensures.grows c.in_ok-right.ensures.grows) c.args.store.now c.args.context.now c.args.frames.now c.requires.work

pub open_rows-requires-clause-pair : goal.open_rows-requires-clause-pair
open_rows-requires-clause-pair c = let e = (exposed_two c.args.bank.now c.exposed.new.bank c.exposed-2.new.bank c.in_ok-left.ensures.grows c.in_ok-right.ensures.grows c.args.store.now c.requires.work.store c.args.pair c.requires.pair.has.1 c.in_ok-left.left c.in_ok-right.right c.in_ok-left.ensures.term c.in_ok-left.ensures.reads c.in_ok-left.ensures.open c.in_ok-right.ensures.term c.in_ok-right.ensures.reads c.in_ok-right.ensures.open) in exposed_stands c.args.bank.now c.exposed-2.new.bank (Grows-trans c.args.bank.now c.exposed.new.bank c.exposed-2.new.bank c.in_ok-left.ensures.grows c.in_ok-right.ensures.grows) c.args.store.now c.args.context.now c.args.frames.now c.requires.work c.args.pair c.requires.pair c.in_ok-left.left c.in_ok-right.right e.0 e.1

pub open_rows-requires-clause-left_open : goal.open_rows-requires-clause-left_open
open_rows-requires-clause-left_open c = let e = (exposed_two c.args.bank.now c.exposed.new.bank c.exposed-2.new.bank c.in_ok-left.ensures.grows c.in_ok-right.ensures.grows c.args.store.now c.requires.work.store c.args.pair c.requires.pair.has.1 c.in_ok-left.left c.in_ok-right.right c.in_ok-left.ensures.term c.in_ok-left.ensures.reads c.in_ok-left.ensures.open c.in_ok-right.ensures.term c.in_ok-right.ensures.reads c.in_ok-right.ensures.open) in exposed_left c.args.bank.now c.exposed-2.new.bank (Grows-trans c.args.bank.now c.exposed.new.bank c.exposed-2.new.bank c.in_ok-left.ensures.grows c.in_ok-right.ensures.grows) c.args.store.now c.args.context.now c.args.frames.now c.requires.work c.args.pair c.requires.pair c.in_ok-left.left c.in_ok-right.right e.0 e.1

pub open_rows-requires-clause-right_open : goal.open_rows-requires-clause-right_open
open_rows-requires-clause-right_open c = let e = (exposed_two c.args.bank.now c.exposed.new.bank c.exposed-2.new.bank c.in_ok-left.ensures.grows c.in_ok-right.ensures.grows c.args.store.now c.requires.work.store c.args.pair c.requires.pair.has.1 c.in_ok-left.left c.in_ok-right.right c.in_ok-left.ensures.term c.in_ok-left.ensures.reads c.in_ok-left.ensures.open c.in_ok-right.ensures.term c.in_ok-right.ensures.reads c.in_ok-right.ensures.open) in exposed_right c.args.bank.now c.exposed-2.new.bank (Grows-trans c.args.bank.now c.exposed.new.bank c.exposed-2.new.bank c.in_ok-left.ensures.grows c.in_ok-right.ensures.grows) c.args.store.now c.args.context.now c.args.frames.now c.requires.work c.args.pair c.requires.pair c.in_ok-left.left c.in_ok-right.right e.0 e.1

pub returns-clause-goes : goal.returns-clause-goes
returns-clause-goes c = λ r f b l h. let e = (exposed_two c.args.bank.now c.exposed.new.bank c.exposed-2.new.bank c.in_ok-left.ensures.grows c.in_ok-right.ensures.grows c.args.store.now c.requires.work.store c.args.pair c.requires.pair.has.1 c.in_ok-left.left c.in_ok-right.right c.in_ok-left.ensures.term c.in_ok-left.ensures.reads c.in_ok-left.ensures.open c.in_ok-right.ensures.term c.in_ok-right.ensures.reads c.in_ok-right.ensures.open) in c.open_rows.ensures.goes r f b l (exposed_rowed c.args.bank.now c.exposed-2.new.bank (Grows-trans c.args.bank.now c.exposed.new.bank c.exposed-2.new.bank c.in_ok-left.ensures.grows c.in_ok-right.ensures.grows) c.args.store.now c.args.context.now c.args.frames.now c.requires.work c.args.pair c.requires.pair c.in_ok-left.left c.in_ok-right.right e.0 e.1 c.args.first r f b l h)
