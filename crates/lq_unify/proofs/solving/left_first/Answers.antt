use Rattle.std.proofs.Common.{true}
use Rattle.std.proofs.Common.{subst as along}
use Rattle.lq_terms.specs.Terms.{tree_of}
use Rattle.lq_terms.proofs.Growth.{Grows-trans}
use Rattle.lq_solving.specs.Stores.{read}
use Rattle.lq_solving.specs.Unification.{by_right, or_else}
use Rattle.lq_evars.specs.Places.{store_of}
use Rattle.lq_unify.specs.Solving.{Solves, solved}
use Rattle.lq_unify.proofs.BothLaws.{left_yes, left_fails, side_of, side_open, right_stays, answer_at, gives_after, refused_after, no_after}
use Rattle.lq_unify.proofs.solving.left_first.Goals as goal

pub returns-then-answer-clause-answer : goal.returns-then-answer-clause-answer
returns-then-answer-clause-answer c = left_yes c.solve.new.bank c.solve.new.store (solved (store_of c.args.bank.now c.args.store.now) (read (store_of c.args.bank.now c.args.store.now) (tree_of c.args.bank.now c.args.left)) (read (store_of c.args.bank.now c.args.store.now) (tree_of c.args.bank.now c.args.right))) (by_right (store_of c.args.bank.now c.args.store.now) (read (store_of c.args.bank.now c.args.store.now) (tree_of c.args.bank.now c.args.left)) (read (store_of c.args.bank.now c.args.store.now) (tree_of c.args.bank.now c.args.right))) (answer_at c.solve.new.bank c.solve.new.store (solved (store_of c.args.bank.now c.args.store.now) (read (store_of c.args.bank.now c.args.store.now) (tree_of c.args.bank.now c.args.left)) (read (store_of c.args.bank.now c.args.store.now) (tree_of c.args.bank.now c.args.right))) c.in-Ok.answer true c.if-answer.true c.in-Ok.ensures.answer)

pub after_no-requires-clause-store : goal.after_no-requires-clause-store
after_no-requires-clause-store c = c.in-Ok.ensures.gives.has

pub after_no-requires-clause-kept : goal.after_no-requires-clause-kept
after_no-requires-clause-kept c = c.in-Ok.ensures.gives.kept

pub after_no-requires-clause-left : goal.after_no-requires-clause-left
after_no-requires-clause-left c = side_of c.args.bank.now c.solve.new.bank c.solve.ensures.grows c.args.store.now c.solve.new.store c.requires.store (c.in-Ok.ensures.no c.if-answer.false) c.args.left c.requires.left

pub after_no-requires-clause-right : goal.after_no-requires-clause-right
after_no-requires-clause-right c = side_of c.args.bank.now c.solve.new.bank c.solve.ensures.grows c.args.store.now c.solve.new.store c.requires.store (c.in-Ok.ensures.no c.if-answer.false) c.args.right c.requires.right

pub after_no-requires-clause-right_open : goal.after_no-requires-clause-right_open
after_no-requires-clause-right_open c = side_open c.args.bank.now c.solve.new.bank c.solve.ensures.grows c.args.store.now c.solve.new.store c.requires.store (c.in-Ok.ensures.no c.if-answer.false) c.args.right c.requires.right c.requires.right_open

pub returns-else-answer-clause-answer : goal.returns-else-answer-clause-answer
returns-else-answer-clause-answer c =
    along (λ p. Solves c.after_no.new.bank c.after_no.result c.after_no.new.store (or_else (solved (store_of c.args.bank.now c.args.store.now) (read (store_of c.args.bank.now c.args.store.now) (tree_of c.args.bank.now c.args.left)) (read (store_of c.args.bank.now c.args.store.now) (tree_of c.args.bank.now c.args.right))) p)) (right_stays c.args.bank.now c.solve.new.bank c.solve.ensures.grows c.args.store.now c.solve.new.store c.requires.store (c.in-Ok.ensures.no c.if-answer.false) c.args.left c.args.right c.requires.left c.requires.right)
    (c.after_no.ensures.answer (solved (store_of c.args.bank.now c.args.store.now) (read (store_of c.args.bank.now c.args.store.now) (tree_of c.args.bank.now c.args.left)) (read (store_of c.args.bank.now c.args.store.now) (tree_of c.args.bank.now c.args.right))) (answer_at c.solve.new.bank c.solve.new.store (solved (store_of c.args.bank.now c.args.store.now) (read (store_of c.args.bank.now c.args.store.now) (tree_of c.args.bank.now c.args.left)) (read (store_of c.args.bank.now c.args.store.now) (tree_of c.args.bank.now c.args.right))) c.in-Ok.answer _ c.if-answer.false c.in-Ok.ensures.answer))

pub returns-else-answer-clause-gives : goal.returns-else-answer-clause-gives
returns-else-answer-clause-gives c = gives_after c.args.bank.now c.solve.new.bank c.solve.ensures.grows c.args.store.now c.solve.new.store c.requires.store (c.in-Ok.ensures.no c.if-answer.false) c.after_no.new.bank c.after_no.new.store c.after_no.result c.after_no.ensures.gives

pub returns-else-answer-clause-refused : goal.returns-else-answer-clause-refused
returns-else-answer-clause-refused c = refused_after c.args.store.now c.solve.new.store c.after_no.new.store (c.in-Ok.ensures.no c.if-answer.false) c.after_no.result c.after_no.ensures.refused

pub returns-else-answer-clause-no : goal.returns-else-answer-clause-no
returns-else-answer-clause-no c = no_after c.args.store.now c.solve.new.store c.after_no.new.store (c.in-Ok.ensures.no c.if-answer.false) c.after_no.result c.after_no.ensures.no

pub returns-else-answer-clause-grows : goal.returns-else-answer-clause-grows
returns-else-answer-clause-grows c = Grows-trans c.args.bank.now c.solve.new.bank c.after_no.new.bank c.solve.ensures.grows c.after_no.ensures.grows

pub returns-in-Err-clause-answer : goal.returns-in-Err-clause-answer
returns-in-Err-clause-answer c = left_fails c.solve.new.bank c.solve.new.store (solved (store_of c.args.bank.now c.args.store.now) (read (store_of c.args.bank.now c.args.store.now) (tree_of c.args.bank.now c.args.left)) (read (store_of c.args.bank.now c.args.store.now) (tree_of c.args.bank.now c.args.right))) (by_right (store_of c.args.bank.now c.args.store.now) (read (store_of c.args.bank.now c.args.store.now) (tree_of c.args.bank.now c.args.left)) (read (store_of c.args.bank.now c.args.store.now) (tree_of c.args.bank.now c.args.right))) c.in-Err.fault c.in-Err.ensures.answer
